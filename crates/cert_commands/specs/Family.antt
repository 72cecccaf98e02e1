-- The command that writes the certificate of the answer that is held: `cert F`.
use Rattle.std.specs.Prelude.{◌≡◌, ◌≢◌, ℕ, ◌<◌, ◌≤◌, List, length, Some, None, IsSome}
use Rattle.sym_io.specs.Faults.{Rose}
use Rattle.sym_io.specs.Files.{Sets}
use Rattle.sym_io.specs.declared.traits.TheConstants.{MAX_FILE_LENGTH}
use Rattle.sound_searches.specs.Sound.{PlainSearch}
use Rattle.kept_env.specs.declared.held.Held.TheVariants.{Nothing}
use Rattle.reply_texts.specs.Texts.{no_model_text, no_answer_text, store_text, file_too_long_text, memory_text}
use Rattle.command_family.specs.Family.{Family}
use Rattle.command_family.specs.Kinds.{Kind, Done, NoModel, NoAnswer, StoreFailed, FileTooLong, WantsMemory}
use Rattle.command_family.specs.State.{ShellState}
use Rattle.cert_commands.specs.Certify.{IsHeldText, CertStep}

pub data CertAsks : Type 0 where
  -- the certificate of the answer that is held, as this file
  Cert : (file : List ℕ) → CertAsks

abbrev pub CertsStep : CertAsks → ShellState → List ℕ → ShellState → Type 0
CertsStep (Cert file) old reply new = CertStep old file reply new

-- ---- causes

-- there is a model and an answer is held, and P of the text of its certificate
pub record Certified (old : ShellState) (P : List ℕ → Type 0) : Type 0 where
  pub search : PlainSearch
  pub text : List ℕ
  pub present : old.env.search ≡ Some search
  pub held : old.env.held ≢ Nothing
  pub certificate : IsHeldText search old.env.held text
  pub is : P text

-- what a reply to `cert` with this file says for sure
abbrev pub CertCause : List ℕ → Kind → ShellState → List ℕ → ShellState → Type 0
-- the file has a text that states a certificate which is accepted for the model that is present
CertCause file Done old reply new = Certified old (λ text. (length text ≤ MAX_FILE_LENGTH) × Sets old.files new.files file text)
CertCause file NoModel old reply new = (reply ≡ no_model_text) × (old.env.search ≡ None)
CertCause file NoAnswer old reply new = (reply ≡ no_answer_text) × (IsSome old.env.search × (old.env.held ≡ Nothing))
CertCause file StoreFailed old reply new = Certified old (λ text. (reply ≡ store_text) × (length text ≤ MAX_FILE_LENGTH) × Rose old.faults new.faults)
CertCause file FileTooLong old reply new = Certified old (λ text. (reply ≡ file_too_long_text) × (MAX_FILE_LENGTH < length text))
CertCause file WantsMemory old reply new = reply ≡ memory_text
CertCause file other old reply new = ⊥

abbrev pub CertsCause : CertAsks → Kind → ShellState → List ℕ → ShellState → Type 0
CertsCause (Cert file) kind old reply new = CertCause file kind old reply new

-- nothing is worked
abbrev pub certificates : Family
certificates = record { Asks = CertAsks; Step = CertsStep; CauseOf = CertsCause; Works = λ asks. ⊥ }
