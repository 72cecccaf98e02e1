-- What the faults of the command line's words say.
use Rattle.std.proofs.Common.{◌≡◌, List, [], ◌∷◌, map, inl, inr, refl, sym, ◌∙◌, ap, subst, true, codes, Option}
use Rattle.std.specs.Prelude.{String}
use Rattle.std.specs.String.{string_bytes}
use Rattle.std.specs.declared.alloc.Global.{Global}
use Rattle.clap.specs.Words.{App, Row, Text, HasKind, IsAmong, Kinds, fault_of, is_simple, is_simple_and_free, kind_of, subcommand_of}
use Rattle.clap.specs.declared.error.Error.{Error}
use Rattle.clap.specs.declared.error.ErrorKind.{ErrorKind}
use Rattle.clap.specs.declared.error.ErrorKind.TheVariants.{OutOfMemory}
use Rattle.clap.proofs.OnLiterals.{clap_on_literals}
use Rattle.program_words.specs.Forms.{AskedForm, IsNameAlone, Script, symphony, TakesWords, asked_by, asked_form}
use Rattle.program_words.specs.Laws.{AsksCheck, AsksScript, CheckLaw, IsPlainWord, NoFormLaw, RunLaw}
use Rattle.program_words.proofs.PlainLemmas.{check_alone, check_asks, no_flag}

is_simple_app : is_simple symphony ≡ true
unfolding clap_on_literals
is_simple_app = refl

is_read : is_simple_and_free symphony ≡ true
unfolding clap_on_literals
is_read = refl

none_among : (k : ErrorKind) (kinds : Kinds) → kinds ≡ [] → IsAmong k kinds → ⊥
none_among k [] none among = among
none_among k (x ∷ xs) none among = absurd (cc)

pub taken : (app : App) (words : List (String Global)) → app ≡ symphony
    → (is_simple_and_free app ≡ true → fault_of app (map string_bytes words) ≡ []) → TakesWords words
unfolding TakesWords
taken app words same h = ap (λ (a : App). fault_of a (map string_bytes words)) (sym same) ∙ h (ap is_simple_and_free same ∙ is_read)

pub refused : (app : App) (words : List (String Global)) (error : Error) → app ≡ symphony
    → (is_simple_and_free app ≡ true → HasKind (fault_of app (map string_bytes words)) error)
    → (kind_of error ≡ OutOfMemory → ⊥) → TakesWords words → ⊥
unfolding TakesWords
refused app words error same h other takes =
    elim (h (ap is_simple_and_free same ∙ is_read)) [
      | inl memory ↦ other memory
      | inr among ↦ none_among (kind_of error) (fault_of app (map string_bytes words)) (ap (λ (a : App). fault_of a (map string_bytes words)) same ∙ takes) among
    ]

-- the program's name and `run` are taken
run_alone : (name : Text) → fault_of symphony (name ∷ codes "run" ∷ []) ≡ []
unfolding clap_on_literals
run_alone name = refl

run_asks : (name : Text) → asked_by (subcommand_of symphony (name ∷ codes "run" ∷ [])) ≡ Script
unfolding clap_on_literals
run_asks name = refl

run_form : (name word : String Global) → string_bytes word ≡ codes "run" → AsksScript (name ∷ word ∷ [])
unfolding TakesWords asked_form
run_form name word form = record {
  taken = ap (λ (bytes : Text). fault_of symphony (string_bytes name ∷ bytes ∷ [])) form ∙ run_alone (string_bytes name);
  script = ap (λ (bytes : Text). asked_by (subcommand_of symphony (string_bytes name ∷ bytes ∷ []))) form ∙ run_asks (string_bytes name);
}

-- one word alone is refused
alone_fault : (name : Text) → fault_of symphony (name ∷ []) ≡ [] → ⊥
unfolding clap_on_literals
alone_fault name none = absurd (cc)

pub name_refused : (words : List (String Global)) → IsNameAlone words → TakesWords words → ⊥
unfolding TakesWords
name_refused words alone takes = alone_fault (codes "symphony") (ap (fault_of symphony) (sym alone) ∙ takes)

no_form : (name : String Global) → TakesWords (name ∷ []) → ⊥
unfolding TakesWords
no_form name takes = alone_fault (string_bytes name) takes

pub no_form_law : NoFormLaw
no_form_law name = no_form name

pub run_law : RunLaw
run_law [] form = absurd form
run_law (name ∷ []) form = absurd form
run_law (name ∷ word ∷ []) form = run_form name word form
run_law (name ∷ word ∷ other ∷ words) form = absurd form

check_form : (name word model cert : String Global) → string_bytes word ≡ codes "check" → IsPlainWord (string_bytes model) → IsPlainWord (string_bytes cert)
    → AsksCheck (name ∷ word ∷ model ∷ cert ∷ []) (string_bytes model) (string_bytes cert)
unfolding TakesWords asked_form
check_form name word model cert form is_model is_cert = record {
  taken =
      ap (λ (bytes : Text). fault_of symphony (string_bytes name ∷ bytes ∷ string_bytes model ∷ string_bytes cert ∷ [])) form
      ∙ check_alone (string_bytes name) (string_bytes model) (string_bytes cert) (no_flag (string_bytes model) is_model) (no_flag (string_bytes cert) is_cert);
  check =
      ap (λ (bytes : Text). asked_by (subcommand_of symphony (string_bytes name ∷ bytes ∷ string_bytes model ∷ string_bytes cert ∷ []))) form
      ∙ check_asks (string_bytes name) (string_bytes model) (string_bytes cert) (no_flag (string_bytes model) is_model) (no_flag (string_bytes cert) is_cert);
}

pub check_law : CheckLaw
check_law [] model cert form = absurd form
check_law (name ∷ []) model cert form = absurd form
check_law (name ∷ word ∷ []) model cert form = absurd form
check_law (name ∷ word ∷ first ∷ []) model cert form = absurd form
check_law (name ∷ word ∷ first ∷ second ∷ []) model cert form =
    subst (λ m. AsksCheck (name ∷ word ∷ first ∷ second ∷ []) m cert) form.1
    (subst (λ c. AsksCheck (name ∷ word ∷ first ∷ second ∷ []) (string_bytes first) c) form.2
    (check_form name word first second form.0 (subst IsPlainWord (sym form.1) form.3) (subst IsPlainWord (sym form.2) form.4)))
check_law (name ∷ word ∷ first ∷ second ∷ other ∷ words) model cert form = absurd form

-- ---- what is asked for

pub asked : (app : App) (words : List (String Global)) (form : AskedForm) (rows : Option (Text × List Row)) → app ≡ symphony
    → (is_simple app ≡ true → rows ≡ subcommand_of app (map string_bytes words)) → form ≡ asked_by rows → form ≡ asked_form words
unfolding asked_form
asked app words form rows same h is =
    is ∙ ap asked_by (h (ap is_simple same ∙ is_simple_app) ∙ ap (λ (a : App). subcommand_of a (map string_bytes words)) same)
