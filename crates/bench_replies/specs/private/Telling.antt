-- What is written of an environment whose model was solved.
use Rattle.std.specs.Prelude.{◌≡◌, ℕ, Bool, true, false, List, ◌++◌, Option, Some, None, Result, Ok, Err}
use Rattle.lp_model.specs.Program.{Program}
use Rattle.search_answers.specs.declared.answers.Answer.{Answer}
use Rattle.search_answers.specs.declared.answers.Answer.TheVariants.{Memory}
use Rattle.sound_searches.specs.Sound.{PlainSearch}
use Rattle.kept_env.specs.Env.{PlainEnv, model_of}
use Rattle.kept_env.specs.declared.env.EnvFault.{EnvFault}
use Rattle.kept_env.specs.declared.held.Held.{Held}
use Rattle.kept_env.specs.declared.held.Held.TheVariants.{Nothing, Finished, Within, Unbounded, Front, Infeasible}
use Rattle.reply_texts.specs.Texts.{answer_text}
use Rattle.cert_commands.specs.Certificates.{IsCertificateText, IsWithinText, IsUnboundedText, IsFrontText, IsEmptinessText}
use Rattle.bench_replies.specs.Benches.{head_line, IsFirstLine, cert_line}

abbrev pub is_wanting : Answer → Bool
is_wanting Memory = true
is_wanting other = false

abbrev pub WritesFirst : List ℕ → List ℕ → List ℕ → Type 0
WritesFirst text old new = (line : List ℕ) × IsFirstLine text line × (new ≡ old ++ line)

-- the line says whether something is held, of which a certificate was made
abbrev pub WritesCert : Option PlainSearch → Held → List ℕ → List ℕ → Type 0
WritesCert None held old new = ⊥
WritesCert (Some S) Nothing old new = new ≡ old ++ cert_line false
WritesCert (Some S) Finished old new = (new ≡ old ++ cert_line true) × ((text : List ℕ) × IsCertificateText S text)
WritesCert (Some S) (Within g) old new = (new ≡ old ++ cert_line true) × ((text : List ℕ) × IsWithinText S g text)
WritesCert (Some S) (Unbounded ray) old new = (new ≡ old ++ cert_line true) × ((text : List ℕ) × IsUnboundedText S ray text)
WritesCert (Some S) (Front cert) old new = (new ≡ old ++ cert_line true) × ((text : List ℕ) × IsFrontText S.model cert text)
WritesCert (Some S) (Infeasible cert) old new = (new ≡ old ++ cert_line true) × ((text : List ℕ) × IsEmptinessText S.model cert text)

pub record WritesAll (rows cols : ℕ) (M : Program) (env : PlainEnv) (answer : Answer) (old new : List ℕ) : Type 0 where
  pub wanted : is_wanting answer ≡ false
  pub line : List ℕ
  pub first : IsFirstLine (answer_text M answer) line
  pub cert : WritesCert env.search env.held ((old ++ head_line rows cols) ++ line) new

abbrev pub WritesOf : ℕ → ℕ → Option Program → PlainEnv → Answer → List ℕ → List ℕ → Type 0
WritesOf rows cols None env answer old new = ⊥
WritesOf rows cols (Some M) env answer old new = WritesAll rows cols M env answer old new

abbrev pub WritesLines : ℕ → ℕ → PlainEnv → Result Answer EnvFault → List ℕ → List ℕ → Type 0
WritesLines rows cols env (Ok answer) old new = WritesOf rows cols (model_of env) env answer old new
WritesLines rows cols env (Err f) old new = ⊥
