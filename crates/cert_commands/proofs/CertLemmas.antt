-- The certificate of a model whose names are words of a line.
use Rattle.std.proofs.Common.{◌≡◌, ◌⊎◌, ℕ, ◌≤◌, arith, List, refl, ap, subst, sym, ◌∙◌, inl, inr, Option, Some, None, Ok, Err, Result}
use Rattle.std.specs.Prelude.{IfSome, Vec}
use Rattle.std.specs.declared.alloc.Global.{Global}
use Rattle.std.specs.Option.{option_map}
use Rattle.frac128.specs.Rational.{ℚ}
use Rattle.lp_model.specs.Program.{Program, Point}
use Rattle.cert_text.specs.declared.cert.Cert.{Cert}
use Rattle.front_text.specs.declared.front.FrontCert.{FrontCert}
use Rattle.word_names.specs.WordNames.{HasWordNames}
use Rattle.word_names.specs.ScriptModels.{IsScriptModel}
use Rattle.word_names.proofs.ScriptNames.{script-words}
use Rattle.sound_searches.specs.Sound.{PlainSearch}
use Rattle.sym_io.specs.Files.{Files}
use Rattle.cert_commands.specs.Certificates.{IsCertificateText, IsWithinText, IsUnboundedText, IsFrontText, IsEmptinessText, IsCertAnswer}
use Rattle.kept_env.specs.Env.{PlainEnv}
use Rattle.kept_env.specs.declared.env.EnvFault.{EnvFault}
use Rattle.kept_env.specs.declared.env.EnvFault.TheVariants as env_fault
use Rattle.kept_env.specs.declared.held.Held.{Held}
use Rattle.kept_env.specs.declared.held.Held.TheVariants.{Nothing, Finished, Within, Unbounded, Front, Infeasible}
use Rattle.command_family.specs.Unchanged.{IsTold}
use Rattle.command_family.specs.State.{shell_state, HasScriptModel}
use Rattle.command_files.specs.Filing.{Writes}
use Rattle.command_files.specs.Filing as filing
use Rattle.command_files.proofs.FileLemmas.{writes-as}
use Rattle.reply_texts.specs.Texts.{memory_text}
use Rattle.command_family.specs.EnvFaults.{env_fault_text}
use Rattle.cert_commands.specs.Certify.{IsReadCertificate, IsReadWithin, IsReadUnbounded, IsReadFront, IsReadEmptiness, IsHeldText, Certifies, CertStep}

read-certificate : (S : PlainSearch) (text : List ℕ) → HasWordNames S.model → IsCertificateText S text → IsReadCertificate S text
read-certificate S text names is = record { is = is; stated = is.stated names }

read-within : (S : PlainSearch) (g : ℚ) (text : List ℕ) → HasWordNames S.model → IsWithinText S g text → IsReadWithin S g text
read-within S g text names is = record { is = is; stated = is.stated names }

read-unbounded : (S : PlainSearch) (ray : Point) (text : List ℕ) → HasWordNames S.model → IsUnboundedText S ray text → IsReadUnbounded S ray text
read-unbounded S ray text names is = record { is = is; stated = is.text_is.stated names }

read-front : (M : Program) (cert : FrontCert) (text : List ℕ) → HasWordNames M → IsFrontText M cert text → IsReadFront M cert text
read-front M cert text names is = record { is = is; stated = is.stated names }

read-emptiness : (M : Program) (cert : Cert) (text : List ℕ) → HasWordNames M → IsEmptinessText M cert text → IsReadEmptiness M cert text
read-emptiness M cert text names is = record { is = is; stated = is.stated names }

-- ---- the answer that is held

module _ (env : PlainEnv) (script : HasScriptModel env) (files files' : Option Files) (faults faults' : ℕ) (name reply : List ℕ) where
  abbrev Told : Option PlainSearch → Held → Type 0
  Told search held = Certifies search held (shell_state env files faults) name reply (shell_state env files' faults')

  step : faults ≤ faults' → Told env.search env.held → CertStep (shell_state env files faults) name reply (shell_state env files' faults')
  step later told = record { env = refl; later = later; answer = told }

  -- the certificate was made, and its text written
  pub cert-written : (r : Result (Vec ℕ Global) EnvFault) (text : Vec ℕ Global) (bytes : List ℕ) → r ≡ Ok text → IsCertAnswer env.search env.held r → bytes ≡ text.items → faults ≤ faults'
      → Writes (λ written. written ≡ bytes) name files faults reply files' faults' → CertStep (shell_state env files faults) name reply (shell_state env files' faults')
  cert-written r text bytes is answer same later writes = step later (by env.search env.held script (subst (IsCertAnswer env.search env.held) is answer))
    where
      by : (search : Option PlainSearch) (held : Held) → IfSome (option_map (λ (S : PlainSearch). S.model) search) IsScriptModel → IsCertAnswer search held (Ok text) → Told search held
      by None held w h = absurd (cc)
      by (Some S) Nothing w h = absurd (cc)
      by (Some S) Finished w h = writes-as (λ written. written ≡ bytes) (IsHeldText S Finished) name files faults reply files' faults' (λ t e. subst (IsReadCertificate S) (sym (e ∙ same)) (read-certificate S text.items (script-words S.model w) h)) writes
      by (Some S) (Within g) w h = writes-as (λ written. written ≡ bytes) (IsHeldText S (Within g)) name files faults reply files' faults' (λ t e. subst (IsReadWithin S g) (sym (e ∙ same)) (read-within S g text.items (script-words S.model w) h)) writes
      by (Some S) (Unbounded ray) w h = writes-as (λ written. written ≡ bytes) (IsHeldText S (Unbounded ray)) name files faults reply files' faults' (λ t e. subst (IsReadUnbounded S ray) (sym (e ∙ same)) (read-unbounded S ray text.items (script-words S.model w) h)) writes
      by (Some S) (Front cert) w h = writes-as (λ written. written ≡ bytes) (IsHeldText S (Front cert)) name files faults reply files' faults' (λ t e. subst (IsReadFront S.model cert) (sym (e ∙ same)) (read-front S.model cert text.items (script-words S.model w) h)) writes
      by (Some S) (Infeasible cert) w h = writes-as (λ written. written ≡ bytes) (IsHeldText S (Infeasible cert)) name files faults reply files' faults' (λ t e. subst (IsReadEmptiness S.model cert) (sym (e ∙ same)) (read-emptiness S.model cert text.items (script-words S.model w) h)) writes

-- there is none, or there was no memory
module _ (env : PlainEnv) (files : Option Files) (faults : ℕ) (name reply : List ℕ) where
  pub cert-refused : (r : Result (Vec ℕ Global) EnvFault) (f : EnvFault) → r ≡ Err f → IsCertAnswer env.search env.held r → (reply ≡ env_fault_text f) ⊎ (reply ≡ memory_text)
      → CertStep (shell_state env files faults) name reply (shell_state env files faults)
  cert-refused r f is answer told = record { env = refl; later = omega arith; answer = by env.search env.held (subst (IsCertAnswer env.search env.held) is answer) }
    where
      refused : (g : EnvFault) → f ≡ g → IsTold (shell_state env files faults) (env_fault_text g) reply (shell_state env files faults)
      refused g same = record {
        files = refl;
        told = elim told [
          | inl t ↦ inl (t ∙ ap env_fault_text same)
          | inr t ↦ inr t
        ];
      }

      wanting : f ≡ env_fault.Memory → reply ≡ memory_text
      wanting same = elim told [
        | inl t ↦ t ∙ ap env_fault_text same
        | inr t ↦ t
      ]

      by : (search : Option PlainSearch) (held : Held) → IsCertAnswer search held (Err f) → Certifies search held (shell_state env files faults) name reply (shell_state env files faults)
      by None held h = refused env_fault.NoModel (cc)
      by (Some S) Nothing h = refused env_fault.NoAnswer (cc)
      by (Some S) Finished h = filing.Wanting (inl refl) (wanting h)
      by (Some S) (Within g) h = filing.Wanting (inl refl) (wanting h)
      by (Some S) (Unbounded ray) h = filing.Wanting (inl refl) (wanting h)
      by (Some S) (Front cert) h = filing.Wanting (inl refl) (wanting h)
      by (Some S) (Infeasible cert) h = filing.Wanting (inl refl) (wanting h)
