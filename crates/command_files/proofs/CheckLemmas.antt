-- What `check` prints of two files that were read.
use Rattle.std.specs.Prelude.{◌≡◌, ℕ, ◌<◌, ◌≤◌, ◌⊎◌, Bool, true, false, if◌then◌else◌, List, [], Option, None, Err}
use Rattle.std.proofs.Common.{arith, sym, subst, inl, inr}
use Rattle.sym_io.specs.Files.{Files}
use Rattle.lp_model.specs.Program.{Program}
use Rattle.mps_model.specs.Faults.{MeantModel}
use Rattle.lp_model.specs.Lawful.{IsLawful}
use Rattle.cert_text.specs.declared.cert.Cert.{Cert}
use Rattle.cert_text.specs.Whole.{IsCertificate}
use Rattle.cert_text.specs.declared.cert.Claim.{Claim}
use Rattle.cert_check.specs.Laws.{AcceptedLaw, VerdictLaw, IsTrueClaim}
use Rattle.cert_check.specs.Verdict.{IsVerdict}
use Rattle.cert_check.specs.declared.verdict.Verdict.{Verdict}
use Rattle.cert_check.specs.declared.verdict.Verdict.TheVariants.{Accepted}
use Rattle.front_text.specs.declared.front.AnyCert.{AnyCert}
use Rattle.front_text.specs.declared.front.AnyCert.TheVariants.{One, Front}
use Rattle.front_text.specs.declared.front.FrontCert.{FrontCert}
use Rattle.front_check.specs.Laws.{FrontLaw, FrontVerdictLaw}
use Rattle.front_check.specs.Verdict.{IsFrontVerdict}
use Rattle.front_check.specs.declared.verdict.FrontVerdict.{FrontVerdict}
use Rattle.front_check.specs.declared.verdict.FrontVerdict.TheVariants as front
use Rattle.command_files.specs.Reading.{HasText}
use Rattle.command_files.specs.Checking.{ReadsCert, IsTrueFront, ChecksFiles, Judged, JudgedFront, BadCert, Wanting}
use Rattle.command_files.specs.private.Checking.{WritesAnyVerdict, ChecksFor, JudgedFor, RefusedFor}
use Rattle.command_files.specs.declared.reading.Refusal.{Refusal}
use Rattle.command_files.specs.declared.reading.Refusal.TheVariants as refusal

-- an accepted claim is true
pub true_claim : (M : Program) (cert : Cert) (verdict : Verdict) → VerdictLaw → AcceptedLaw → IsCertificate cert → IsVerdict M cert verdict → (claim : Claim) → verdict ≡ Accepted claim → IsTrueClaim M claim
true_claim M cert verdict judged accepted whole is claim e =
    let known = judged M cert claim whole (subst (IsVerdict M cert) e is) in
    subst (IsTrueClaim M) (sym known.0) (accepted M cert known.1)

-- the outcomes of an accepted certificate are the front of the model
pub true_front : (M : Program) (cert : FrontCert) (verdict : FrontVerdict) → FrontVerdictLaw → FrontLaw → IsLawful M → IsFrontVerdict M cert verdict → (outcomes : ℕ) → verdict ≡ front.Accepted outcomes → IsTrueFront M cert outcomes
true_front M cert verdict judged law lawful is outcomes e =
    let known = judged M cert outcomes (subst (IsFrontVerdict M cert) e is) in
    record { count = known.0; frontier = law M cert lawful known.1 }

-- a verdict that is written behind nothing
pub verdict-first : (M : Program) (c : AnyCert) (old new : List ℕ) → old ≡ [] → WritesAnyVerdict M c old new → WritesAnyVerdict M c [] new
verdict-first M c old new empty w = subst (λ before. WritesAnyVerdict M c before new) empty w

-- a certificate's file that is refused while the count of faults goes up from `now`, is so from any count before
later-refused : (files : Option Files) (cert : List ℕ) (before now after : ℕ) (r : Refusal) → before ≤ now → ReadsCert files cert now after (Err r) → ReadsCert files cert before after (Err r)
later-refused files cert before now after refusal.Store later (inl rose) = inl (omega arith)
later-refused files cert before now after refusal.Store later (inr missing) = inr missing
later-refused files cert before now after refusal.FileTooLong later h = h
later-refused files cert before now after (refusal.Faulty line code) later h = h
later-refused files cert before now after refusal.Memory later h = h

-- behind the model's file
pub checks-both : (files files' : Option Files) (model cert : List ℕ) (before now after : ℕ) (M : Program) (reply : List ℕ) → HasText files model (λ text. MeantModel text None M) → files' ≡ files → before ≤ now → ChecksFor files' M cert now after reply → ChecksFiles files model cert before after reply
checks-both files files' model cert before now after M reply read same later h = by (subst (λ held. ChecksFor held M cert now after reply) same h)
  where
    by : ChecksFor files M cert now after reply → ChecksFiles files model cert before after reply
    by (JudgedFor (One c) stated (inl w)) = Judged (record { program = M; certificate = c; read = read; stated = stated; verdict = w.0; is = w.1.0; told = w.1.2; true_claim = w.1.1 })
    by (JudgedFor (One c) stated (inr told)) = Wanting told
    by (JudgedFor (Front c) stated (inl w)) = JudgedFront (record { program = M; certificate = c; read = read; stated = stated; verdict = w.0; is = w.1.0; told = w.1.2; true_front = w.1.1 })
    by (JudgedFor (Front c) stated (inr told)) = Wanting told
    by (RefusedFor r cause told) = BadCert (record { program = M; read = read; refusal = r; cause = later-refused files cert before now after r later cause; told = told })

-- the statuses of a check
pub known-status : (memory accepted : Bool) (status : ℕ) → status ≡ (if memory then 5 else if accepted then 0 else 1) → (status < 2) ⊎ ((status ≡ 4) ⊎ (status ≡ 5))
known-status true accepted status e = inr (inr e)
known-status false true status e = inl (subst (λ n. n < 2) (sym e) (omega arith))
known-status false false status e = inl (subst (λ n. n < 2) (sym e) (omega arith))
