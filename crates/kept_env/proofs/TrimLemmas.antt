-- What `trim` does to an environment.
use Rattle.std.specs.Prelude.{◌≡◌, ℕ, Some, Ok, Err}
use Rattle.std.proofs.Common.{refl, sym, ap, subst}
use Rattle.sound_searches.specs.Sound.{PlainSearch}
use Rattle.sound_searches.specs.Trimmed.{Trims}
use Rattle.kept_env.specs.Env.{PlainEnv}
use Rattle.kept_env.specs.Trimming.{TrimsEnv}
use Rattle.kept_env.specs.declared.held.Held.{Held}
use Rattle.kept_env.specs.declared.held.Held.TheVariants.{Nothing}
use Rattle.kept_env.specs.declared.env.EnvFault.TheVariants as fault

pub trims-env : (depth : ℕ) (old : PlainEnv) (S T : PlainSearch) (held : Held) (u : Unit {0}) → old.search ≡ Some S → Trims S depth T → held ≡ Nothing → TrimsEnv old.search depth old (Ok u) (record { search = Some T; held = held })
trims-env depth old S T held u there trims is =
    subst (λ o. TrimsEnv o depth old (Ok u) (record { search = Some T; held = held })) (sym there)
    (record { search = T; trims = trims; env_is = ap (λ h. record { search = Some T; held = h }) is })

pub wants-trim : (depth : ℕ) (old new : PlainEnv) (S : PlainSearch) → old.search ≡ Some S → new ≡ old → TrimsEnv old.search depth old (Err fault.Memory) new
wants-trim depth old new S there kept = subst (λ o. TrimsEnv o depth old (Err fault.Memory) new) (sym there) (refl, kept)
