-- What `check MODEL CERT` prints.
use Rattle.std.specs.Prelude.{◌≡◌, ℕ, Bool, true, false, ◌&&◌, if◌then◌else◌, List, length, ◌++◌, codes, decimal, pos, Option, None, Result, Ok, Err, ◌==◌}
use Rattle.std.specs.List.{starts_with}
use Rattle.std.specs.Io.KnownBytes.{Appends}
use Rattle.frac128.specs.Rational.{ℚ}
use Rattle.frac128.specs.Printing.{printed}
use Rattle.sym_io.specs.Faults.{Rose}
use Rattle.sym_io.specs.Files.{Files}
use Rattle.script_session.specs.Output.{WritesFront}
use Rattle.script_session.specs.Reply.{wants_memory}
use Rattle.command_words.specs.Names.{is_file_name}
use Rattle.lp_model.specs.Program.{Program}
use Rattle.lp_model.specs.declared.types.WideStep.{WideStep}
use Rattle.mps_model.specs.Faults.{MeantModel}
use Rattle.cert_text.specs.Text.{MeantCertificate, FaultyCertificate}
use Rattle.cert_check.specs.Verdict.{IsVerdict}
use Rattle.frontier.specs.Outcomes.{IsFrontier, outcomes_in_own_sense}
use Rattle.front_text.specs.Text.{is_front_text, MeantFront, FaultyFront}
use Rattle.front_text.specs.declared.front.AnyCert.{AnyCert}
use Rattle.front_text.specs.declared.front.AnyCert.TheVariants.{One, Front}
use Rattle.front_text.specs.declared.front.FrontCert.{FrontCert}
use Rattle.inner_models.specs.Inner.{bare_model, gap_model}
use Rattle.front_check.specs.Accepted.{outcomes_of}
use Rattle.front_check.specs.Verdict.{IsFrontVerdict}
use Rattle.front_check.specs.declared.verdict.FrontVerdict.{FrontVerdict}
use Rattle.front_check.specs.declared.verdict.FrontVerdict.TheVariants as front
use Rattle.cert_check.specs.Laws.{IsTrueClaim}
use Rattle.cert_text.specs.declared.cert.Claim.{Claim}
use Rattle.cert_text.specs.declared.cert.Claim.TheVariants.{Optimal, Within, Infeasible, Unbounded}
use Rattle.cert_text.specs.declared.cert.Cert.{Cert}
use Rattle.cert_check.specs.declared.verdict.Verdict.{Verdict}
use Rattle.cert_check.specs.declared.verdict.Verdict.TheVariants.{Accepted, Rejected, Wide}
use Rattle.command_files.specs.Reading.{HasText, IsUnread, IsTooLong, ReadsFile, refusal_text}
use Rattle.reply_texts.specs.Places.{step_text}
use Rattle.reply_texts.specs.Texts.{arguments_text, store_text, file_too_long_text, cert_fault_text, memory_text}
use Rattle.command_files.specs.declared.reading.Refusal.{Refusal}
use Rattle.command_files.specs.declared.reading.Refusal.TheVariants as refusal

-- ---- the certificate's file

-- A text is of a front where the first word of its first line is `front`, else of one value. What it states:
abbrev pub StatesCert : List ℕ → AnyCert → Type 0
StatesCert text (One cert) = (is_front_text text ≡ false) × MeantCertificate text cert
StatesCert text (Front cert) = (is_front_text text ≡ true) × MeantFront text cert

abbrev pub FaultyWhere : Bool → List ℕ → ℕ → ℕ → Type 0
FaultyWhere false text line code = FaultyCertificate text line code
FaultyWhere true text line code = FaultyFront text line code

-- and its first faulty line with the least code
abbrev pub IsFaultyCert : List ℕ → ℕ → ℕ → Type 0
IsFaultyCert text line code = FaultyWhere (is_front_text text) text line code

-- the causes of each answer to reading a file's certificate, where the count of faults goes from before to after
abbrev pub ReadsCert : Option Files → List ℕ → ℕ → ℕ → Result AnyCert Refusal → Type 0
ReadsCert files name before after (Ok cert) = HasText files name (λ text. StatesCert text cert)
ReadsCert files name before after (Err refusal.Store) = IsUnread files name before after
ReadsCert files name before after (Err refusal.FileTooLong) = IsTooLong files name
ReadsCert files name before after (Err (refusal.Faulty line code)) = HasText files name (λ text. IsFaultyCert text line code)
ReadsCert files name before after (Err refusal.Memory) = Unit {0}

abbrev pub cert_refusal_text : Refusal → List ℕ
cert_refusal_text refusal.Store = store_text
cert_refusal_text refusal.FileTooLong = file_too_long_text
cert_refusal_text (refusal.Faulty line code) = cert_fault_text line code
cert_refusal_text refusal.Memory = memory_text

-- ---- the verdict

abbrev pub accepted_value_text : ℚ → List ℕ
accepted_value_text v = codes "accepted optimal " ++ printed v ++ codes "\n"

-- a gap, then the value
abbrev pub accepted_within_text : ℚ → ℚ → List ℕ
accepted_within_text g v = codes "accepted within " ++ printed g ++ codes " " ++ printed v ++ codes "\n"

abbrev pub claim_text : Claim → List ℕ
claim_text (Optimal v) = accepted_value_text v
claim_text (Within g v) = accepted_within_text g v
claim_text Infeasible = codes "accepted infeasible\n"
claim_text Unbounded = codes "accepted unbounded\n"

abbrev pub rejected_text : ℕ → ℕ → List ℕ
rejected_text node why = codes "rejected " ++ decimal node ++ codes " " ++ decimal why ++ codes "\n"

abbrev pub wide_text : Program → ℕ → WideStep → List ℕ
wide_text M node step = codes "wide " ++ decimal node ++ codes " " ++ step_text M step ++ codes "\n"

abbrev pub verdict_text : Program → Verdict → List ℕ
verdict_text M (Accepted claim) = claim_text claim
verdict_text M (Rejected node why) = rejected_text node why
verdict_text M (Wide node step) = wide_text M node step

abbrev pub accepted_front_text : ℕ → List ℕ
accepted_front_text outcomes = codes "accepted frontier " ++ decimal outcomes ++ codes "\n"

-- a model with the rows and columns of all inner models of a front, of which a step may be: behind the model's own stand Z, and G1 and G2
abbrev pub inner_program : Program → Program
inner_program M = gap_model (bare_model M) (pos 0) (pos 0) (pos 0) (pos 0)

abbrev pub front_verdict_text : Program → FrontVerdict → List ℕ
front_verdict_text M (front.Accepted outcomes) = accepted_front_text outcomes
front_verdict_text M (front.Rejected node why) = rejected_text node why
front_verdict_text M (front.Wide node step) = wide_text (inner_program M) node step

-- there are so many outcomes, and in the model's own sense they are its front: exactly the outcomes that no other dominates, each once
pub record IsTrueFront (M : Program) (cert : FrontCert) (outcomes : ℕ) : Type 0 where
  pub count : outcomes ≡ length cert.outcomes
  pub frontier : IsFrontier M (outcomes_in_own_sense M.sense (outcomes_of cert))

-- ---- all that is printed

-- the files' texts mean a model and state a certificate of one value, and this is the verdict, a true claim where it is accepted
pub record Judges (files : Option Files) (model cert reply : List ℕ) : Type 0 where
  pub program : Program
  pub certificate : Cert
  pub read : HasText files model (λ text. MeantModel text None program)
  pub stated : HasText files cert (λ text. StatesCert text (One certificate))
  pub verdict : Verdict
  pub is : IsVerdict program certificate verdict
  pub told : reply ≡ verdict_text program verdict
  pub true_claim : (claim : Claim) → verdict ≡ Accepted claim → IsTrueClaim program claim

-- they mean a model and state a certificate of a front, and this is the verdict, the front of the model where it is accepted
pub record JudgesFront (files : Option Files) (model cert reply : List ℕ) : Type 0 where
  pub program : Program
  pub certificate : FrontCert
  pub read : HasText files model (λ text. MeantModel text None program)
  pub stated : HasText files cert (λ text. StatesCert text (Front certificate))
  pub verdict : FrontVerdict
  pub is : IsFrontVerdict program certificate verdict
  pub told : reply ≡ front_verdict_text program verdict
  pub true_front : (outcomes : ℕ) → verdict ≡ front.Accepted outcomes → IsTrueFront program certificate outcomes

-- the model's file is refused
pub record RefusesModel (files : Option Files) (model : List ℕ) (before after : ℕ) (reply : List ℕ) : Type 0 where
  pub refusal : Refusal
  pub cause : ReadsFile files model None before after (Err refusal)
  pub told : reply ≡ refusal_text refusal

-- the model's file is read, and the certificate's is refused
pub record RefusesCert (files : Option Files) (model cert : List ℕ) (before after : ℕ) (reply : List ℕ) : Type 0 where
  pub program : Program
  pub read : HasText files model (λ text. MeantModel text None program)
  pub refusal : Refusal
  pub cause : ReadsCert files cert before after (Err refusal)
  pub told : reply ≡ cert_refusal_text refusal

-- what is printed of two files, the count of faults going from before to after
pub data ChecksFiles (files : Option Files) (model cert : List ℕ) (before after : ℕ) (reply : List ℕ) : Type 0 where
  Judged : Judges files model cert reply → ChecksFiles files model cert before after reply
  JudgedFront : JudgesFront files model cert reply → ChecksFiles files model cert before after reply
  BadModel : RefusesModel files model before after reply → ChecksFiles files model cert before after reply
  BadCert : RefusesCert files model cert before after reply → ChecksFiles files model cert before after reply
  Wanting : reply ≡ memory_text → ChecksFiles files model cert before after reply

-- what is printed, by whether both words are names of files
abbrev pub ChecksWhere : Bool → Option Files → List ℕ → List ℕ → ℕ → ℕ → List ℕ → Type 0
ChecksWhere true files model cert before after reply = ChecksFiles files model cert before after reply
ChecksWhere false files model cert before after reply = reply ≡ arguments_text

-- what is printed of two words: they are tested first
abbrev pub Checks : Option Files → List ℕ → List ℕ → ℕ → ℕ → List ℕ → Type 0
Checks files model cert before after reply = ChecksWhere (is_file_name model && is_file_name cert) files model cert before after reply

abbrev pub is_accepted : List ℕ → Bool
is_accepted reply = starts_with ◌==◌ reply (codes "accepted ")

-- 5 where memory was wanting, 0 where the certificate is accepted, 1 else
abbrev pub check_status : List ℕ → ℕ
check_status reply = if wants_memory reply then 5 else if is_accepted reply then 0 else 1

-- ---- the printing

-- A text with P was printed whole, and gives the status; or a front of it, where the sink failed; or nothing, where there was no
-- memory for it. The sink's count of faults goes from before to after.
pub data Prints (P : List ℕ → Type 0) (status_of : List ℕ → ℕ) (written written' : Option (List ℕ)) (before after : ℕ) (status : ℕ) : Type 0 where
  Whole : (text : List ℕ) → P text → Appends written written' text → status ≡ status_of text → Prints P status_of written written' before after status
  CutOff : (text : List ℕ) → P text → WritesFront written written' text → Rose before after → status ≡ 4 → Prints P status_of written written' before after status
  MemoryWanted : written' ≡ written → status ≡ 5 → Prints P status_of written written' before after status
