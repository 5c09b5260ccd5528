-- Tokens mean one program, or are refused for one reason.
use Rattle.std.proofs.Common.{◌≡◌, ◌≢◌, ◌∙◌, List, Result, Ok, Err, refl, sym, ap, subst}
use Rattle.tv_lex.specs.Token.{SpecToken, HaveOneMeaning}
use Rattle.tv_model.specs.Program.{ProgramForm}
use Rattle.tv_source.specs.Forms.{SourceForm}
use Rattle.tv_plang_laws.specs.Compiled.{IsSmall, compiled}
use Rattle.tv_source_names.specs.Meaning.{source_meant}
use Rattle.tv_source_names.specs.Outcome.{IsRefused, MeansSource}
use Rattle.tv_source_names.specs.declared.error.SourceReadError.{SourceReadError}
use Rattle.tv_source_names.specs.declared.error.SourceReadError.TheVariants as read
use Rattle.tv_source_syntax.specs.Depth.{IsTooDeep}
use Rattle.tv_source_syntax.specs.Forms.{SourceText}
use Rattle.tv_source_syntax.specs.Grammar.{IsSource}
use Rattle.tv_plang.specs.Laws.{HaveOneProgram, HaveOneRefusal, without_place}
use Rattle.tv_plang.specs.Meaning.{IsSourceCause, IsTooLarge, MeansProgram}
use Rattle.tv_plang.specs.declared.error.SourceError.{SourceError}
use Rattle.tv_plang.specs.declared.error.SourceError.TheVariants.{TooDeep, Syntax, Reserved, NameTwice}
use Rattle.tv_plang.specs.declared.error.SourceError.TheVariants.{NameUnknown, TooMany, Memory}

-- tokens are those of one text at most
abbrev pub HaveOneText : Type 0
HaveOneText = HaveOneMeaning IsSource

-- ---- kinds of refusals

data Class : Type 0 where
  Deep : Class
  NoText : Class
  Named : SourceReadError → Class
  Large : Class

-- what stands where a refusal is of the kind
abbrev Has : List SpecToken → Class → Type 0
Has ts Deep = IsTooDeep ts
Has ts NoText = ¬ IsTooDeep ts × ((s : SourceText) → ¬ IsSource ts s)
Has ts (Named e) = IsRefused ts e
Has ts Large = IsTooLarge ts

ok-err : {X Y : Type 0} (x : X) (y : Y) → Ok x ≡ Err y → ⊥
ok-err x y e = absurd (cc e)

one-error : (a b : SourceReadError) → ◌≡◌ {A = Result SourceForm SourceReadError} (Err a) (Err b) → a ≡ b
one-error a b e = cc e

named-meant : HaveOneText → (ts : List SpecToken) (e : SourceReadError) (s : SourceForm) → IsRefused ts e → MeansSource ts s → ⊥
named-meant one ts e s refused meant =
    let same : meant.text ≡ refused.text = one ts meant.text refused.text meant.is refused.is
    in ok-err s e (sym meant.meant ∙ ap source_meant same ∙ refused.refused)

one-class : HaveOneText → HaveOneMeaning MeansSource → (ts : List SpecToken) (c d : Class) → Has ts c → Has ts d → c ≡ d
one-class one sources ts Deep Deep has_c has_d = refl
one-class one sources ts Deep NoText has_c has_d = absurd (has_d.0 has_c)
one-class one sources ts Deep (Named e) has_c has_d = absurd (has_d.low has_c)
one-class one sources ts Deep Large has_c has_d = absurd (has_d.meant.low has_c)
one-class one sources ts NoText Deep has_c has_d = absurd (has_c.0 has_d)
one-class one sources ts NoText NoText has_c has_d = refl
one-class one sources ts NoText (Named e) has_c has_d = absurd (has_c.1 has_d.text has_d.is)
one-class one sources ts NoText Large has_c has_d = absurd (has_c.1 has_d.meant.text has_d.meant.is)
one-class one sources ts (Named e) Deep has_c has_d = absurd (has_c.low has_d)
one-class one sources ts (Named e) NoText has_c has_d = absurd (has_d.1 has_c.text has_c.is)
one-class one sources ts (Named e) (Named f) has_c has_d =
    let same : has_c.text ≡ has_d.text = one ts has_c.text has_d.text has_c.is has_d.is
    in ap Named (one-error e f (sym has_c.refused ∙ ap source_meant same ∙ has_d.refused))
one-class one sources ts (Named e) Large has_c has_d = absurd (named-meant one ts e has_d.source has_c has_d.meant)
one-class one sources ts Large Deep has_c has_d = absurd (has_c.meant.low has_d)
one-class one sources ts Large NoText has_c has_d = absurd (has_d.1 has_c.meant.text has_c.meant.is)
one-class one sources ts Large (Named e) has_c has_d = absurd (named-meant one ts e has_c.source has_d has_c.meant)
one-class one sources ts Large Large has_c has_d = refl

-- ---- the kind of each refusal

abbrev without_reading_place : SourceReadError → SourceError
without_reading_place read.TooDeep = TooDeep
without_reading_place (read.Syntax place) = Memory
without_reading_place read.Reserved = Reserved
without_reading_place read.NameTwice = NameTwice
without_reading_place read.NameUnknown = NameUnknown
without_reading_place read.Memory = Memory

abbrev of_class : Class → SourceError
of_class Deep = TooDeep
of_class NoText = Syntax (record { line = 1; column = 1 })
of_class (Named e) = without_reading_place e
of_class Large = TooMany

record IsOfClass (ts : List SpecToken) (fault : SourceError) : Type 0 where
  class : Class
  has : Has ts class
  same : of_class class ≡ without_place fault

class-of : (ts : List SpecToken) (fault : SourceError) → fault ≢ Memory → IsSourceCause ts fault → IsOfClass ts fault
class-of ts TooDeep other cause = record { class = Deep; has = cause; same = refl }
class-of ts (Syntax place) other cause = record { class = NoText; has = cause; same = refl }
class-of ts Reserved other cause = record { class = Named read.Reserved; has = cause; same = refl }
class-of ts NameTwice other cause = record { class = Named read.NameTwice; has = cause; same = refl }
class-of ts NameUnknown other cause = record { class = Named read.NameUnknown; has = cause; same = refl }
class-of ts TooMany other cause = record { class = Large; has = cause; same = refl }
class-of ts Memory other cause = absurd (other refl)

pub have_one_refusal : HaveOneText → HaveOneMeaning MeansSource → HaveOneRefusal
have_one_refusal one sources ts d e d_other e_other d_cause e_cause =
    let of_d : IsOfClass ts d = class-of ts d d_other d_cause
    in let of_e : IsOfClass ts e = class-of ts e e_other e_cause
    in sym of_d.same ∙ ap of_class (one-class one sources ts of_d.class of_e.class of_d.has of_e.has) ∙ of_e.same

-- ---- one meaning

refused-not : HaveOneText → HaveOneMeaning MeansSource → (ts : List SpecToken) (p : ProgramForm) → MeansProgram ts p → (c : Class) → ¬ Has ts c
refused-not one sources ts p means Deep has = means.meant.low has
refused-not one sources ts p means NoText has = has.1 means.meant.text means.meant.is
refused-not one sources ts p means (Named e) has = named-meant one ts e means.source has means.meant
refused-not one sources ts p means Large has =
    let same : means.source ≡ has.source = sources ts means.source has.source means.meant has.meant
    in has.large (subst IsSmall (means.is ∙ ap compiled same) means.small)

pub have_one_meaning : HaveOneText → HaveOneMeaning MeansSource → HaveOneProgram
have_one_meaning one sources = record {
  one = λ ts p q means_p means_q. means_p.is
      ∙ ap compiled (sources ts means_p.source means_q.source means_p.meant means_q.meant)
      ∙ sym means_q.is;
  unrefused = λ ts p fault means other cause. let of : IsOfClass ts fault = class-of ts fault other cause
      in refused-not one sources ts p means of.class of.has;
}
