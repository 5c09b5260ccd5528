use Rattle.std.proofs.Common.{◌≡◌, ◌∙◌, List, [], ◌∷◌, sym, ap, inl, inr, String, Global}
use Rattle.std.proofs.lemmas.Bool.{and_parts}
use Rattle.std.proofs.lemmas.Str.{IsUtf8-string_bytes}
use Rattle.clap.specs.Kinds.{HasKind, Kinds}
use Rattle.clap.specs.Faults.{fault_of, is_simple_and_free}
use Rattle.clap.specs.Simple.{matches_of}
use Rattle.clap.specs.Words.{app_of, kind_of}
use Rattle.clap.specs.declared.error.Error.{Error}
use Rattle.clap.specs.declared.error.kind.ErrorKind.TheVariants.{OutOfMemory}
use Rattle.tv_words.specs.Words.{words_of}
use Rattle.tv_words.proofs.Parses.{line_found, no_line_found, told_of_all}
use Rattle.tv_words.proofs.Walks.{AllText}
use Rattle.tv_words.proofs.line.read_line.Goals as goal

all_text : (words : List (String Global)) → AllText (words_of words)
all_text [] = tt
all_text (word ∷ words) = (IsUtf8-string_bytes word, all_text words)

some_kind : (kinds : Kinds) (e : Error) → HasKind kinds e → (kind_of e ≡ OutOfMemory → ⊥) → kinds ≡ [] → ⊥
some_kind [] e (inl is) other none = other is
some_kind [] e (inr h) other none = h
some_kind (k ∷ ks) e h other none = cc

pub returns-in-Ok : goal.returns-in-Ok
returns-in-Ok c = λ name flags settings fit is.
    let told = ap is_simple_and_free is ∙ told_of_all name flags settings in
    let none = c.in-Ok.ensures.kinds told in
    let rows = (c.in-Ok.ensures.matches (and_parts _ _ told).0).0 in
    line_found name flags settings fit (words_of c.args.words.now) (all_text c.args.words.now) c.in-Ok.matches
    (ap (λ a. fault_of a (words_of c.args.words.now)) (sym is) ∙ none)
    (rows ∙ ap (λ a. matches_of a (words_of c.args.words.now)) is)

pub returns : goal.returns
returns c = λ name flags settings fit is.
    let told = ap is_simple_and_free is ∙ told_of_all name flags settings in
    let words = words_of c.args.words.now in
    no_line_found name flags settings fit words (all_text c.args.words.now)
    (fault_of (app_of c.args.command) words) (ap (λ a. fault_of a words) (sym is))
    (some_kind (fault_of (app_of c.args.command) words) c.in-Err.error (c.in-Err.ensures.kinds told)
    (λ e. c.in_default.not-OutOfMemory (c.kind.ensures ∙ e)))
