pub mod BindingLaws
pub mod CopyLaws
pub mod NodeLaws
pub mod SpellLaws
