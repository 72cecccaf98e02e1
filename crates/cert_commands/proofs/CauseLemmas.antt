-- Each reply to `cert` has its cause, and the environment stays.
use Rattle.std.proofs.Common.{◌≡◌, ◌≢◌, ℕ, ◌≤◌, List, [], inl, inr, refl, sym, subst, ap, ◌∙◌, Option, Some, None}
use Rattle.std.specs.Prelude.{codes, IsSome}
use Rattle.sound_searches.specs.Sound.{PlainSearch}
use Rattle.kept_env.specs.Env.{model_of}
use Rattle.kept_env.specs.declared.held.Held.{Held}
use Rattle.kept_env.specs.declared.held.Held.TheVariants.{Nothing, Finished, Within, Unbounded, Front, Infeasible}
use Rattle.command_files.specs.Filing.{Writes, Written, TooLong, Failed, Wanting}
use Rattle.reply_texts.specs.Texts.{memory_text}
use Rattle.command_family.specs.Family.{HasCause, IsLawfulFamily}
use Rattle.command_family.specs.Kinds.{Done, NoModel, NoAnswer, StoreFailed, FileTooLong, WantsMemory}
use Rattle.command_family.specs.State.{ShellState}
use Rattle.cert_commands.specs.Certify.{IsHeldText, Certifies}
use Rattle.cert_commands.specs.Family.{CertAsks, Cert, CertsStep, certificates}

module _ (old : ShellState) (reply : List ℕ) (new : ShellState) (file : List ℕ) where
  abbrev Caused : Type 0
  Caused = HasCause certificates (Cert file) old reply new

  wants : reply ≡ memory_text → Caused
  wants told = record { kind = WantsMemory; is = (codes "memory\n", told); cause = told }

  writes_cause : (S : PlainSearch) (held : Held) → old.env.search ≡ Some S → old.env.held ≡ held → old.env.held ≢ Nothing → Writes (IsHeldText S held) file old.files old.faults reply new.files new.faults → Caused
  writes_cause S held present same some (Written text is short sets told) = record {
    kind = Done;
    is = ([], told);
    cause = record { search = S; text = text; present = present; held = some; certificate = subst (λ h. IsHeldText S h text) (sym same) is; is = (short, sets) };
  }
  writes_cause S held present same some (TooLong text is long kept told) = record {
    kind = FileTooLong;
    is = (codes "file too long\n", told);
    cause = record { search = S; text = text; present = present; held = some; certificate = subst (λ h. IsHeldText S h text) (sym same) is; is = (told, long) };
  }
  writes_cause S held present same some (Failed text is short rose kept told) = record {
    kind = StoreFailed;
    is = (codes "store\n", told);
    cause = record { search = S; text = text; present = present; held = some; certificate = subst (λ h. IsHeldText S h text) (sym same) is; is = (told, short, rose) };
  }
  writes_cause S held present same some (Wanting kept told) = wants told

  cert_cause : (search : Option PlainSearch) (held : Held) → old.env.search ≡ search → old.env.held ≡ held → Certifies search held old file reply new → Caused
  cert_cause None held none e t = elim t.told [
    | inl told ↦ record { kind = NoModel; is = (codes "no model\n", told); cause = (told, none) }
    | inr told ↦ wants told
  ]
  cert_cause (Some S) Nothing present none t = elim t.told [
    | inl told ↦ record { kind = NoAnswer; is = (codes "no finished answer\n", told); cause = (told, (subst IsSome (sym present) refl, none)) }
    | inr told ↦ wants told
  ]
  cert_cause (Some S) Finished present same w = writes_cause S Finished present same (λ none. let e : Finished ≡ Nothing = sym same ∙ none in cc) w
  cert_cause (Some S) (Within g) present same w = writes_cause S (Within g) present same (λ none. let e : Within g ≡ Nothing = sym same ∙ none in cc) w
  cert_cause (Some S) (Unbounded ray) present same w = writes_cause S (Unbounded ray) present same (λ none. let e : Unbounded ray ≡ Nothing = sym same ∙ none in cc) w
  cert_cause (Some S) (Front cert) present same w = writes_cause S (Front cert) present same (λ none. let e : Front cert ≡ Nothing = sym same ∙ none in cc) w
  cert_cause (Some S) (Infeasible cert) present same w = writes_cause S (Infeasible cert) present same (λ none. let e : Infeasible cert ≡ Nothing = sym same ∙ none in cc) w

caused : (asks : CertAsks) (old : ShellState) (reply : List ℕ) (new : ShellState) → CertsStep asks old reply new → HasCause certificates asks old reply new
caused (Cert file) old reply new h = cert_cause old reply new file old.env.search old.env.held refl refl h.answer

-- the environment stays, and no count of faults falls
same-env : (asks : CertAsks) (old : ShellState) (reply : List ℕ) (new : ShellState) → CertsStep asks old reply new → new.env ≡ old.env
same-env (Cert file) old reply new h = h.env

later-faults : (asks : CertAsks) (old : ShellState) (reply : List ℕ) (new : ShellState) → CertsStep asks old reply new → old.faults ≤ new.faults
later-faults (Cert file) old reply new h = h.later

pub certificates-lawful : IsLawfulFamily certificates
certificates-lawful = record {
  caused = caused;
  later = later-faults;
  kept = λ asks old reply new h other. ap model_of (same-env asks old reply new h);
  refused = λ asks old reply new h k error is. same-env asks old reply new h;
  wanted = λ asks old reply new h wanting other. same-env asks old reply new h;
}
