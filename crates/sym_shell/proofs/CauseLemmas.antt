-- What a step's reply says for sure, by the laws of the family that answers.
use Rattle.std.proofs.Common.{ℕ, List, [], refl, subst}
use Rattle.command_words.specs.Asks.{Asks, asks_of}
use Rattle.command_family.specs.Family as family
use Rattle.command_family.specs.State.{ShellState, HasScriptModel}
use Rattle.command_family.proofs.FamilyLemmas.{family-causes}
use Rattle.bound_commands.specs.Family as bounds
use Rattle.bound_commands.proofs.CauseLemmas.{bounds-unchanged, bounds-exact}
use Rattle.search_replies.specs.Family.{IsComplete}
use Rattle.search_replies.proofs.CauseLemmas.{searches-complete}
use Rattle.front_commands.specs.Family.{IsFrontComplete}
use Rattle.front_commands.proofs.CauseLemmas.{fronts-complete}
use Rattle.sym_shell.specs.Step.{in_family, AnswersTo, Step}
use Rattle.kept_env.specs.Env.{IsEnv}
use Rattle.command_family.specs.Kinds.{Done}
use Rattle.sym_shell.specs.Causes.{cause_in, HasCauses, IsAnswered}
use Rattle.sym_shell.specs.Kept.{HasSoundSearch}
use Rattle.sym_shell.proofs.RestoredLaws.{closed-again}
use Rattle.sym_shell.proofs.LawLemmas.{lawful, works-not}
use Rattle.sym_shell.proofs.HeadlineLemmas.{promises}

pub step-causes : (old : ShellState) (words : List (List ℕ)) (reply : List ℕ) (new : ShellState) → Step old words reply new → HasCauses old words reply new
unfolding Step
step-causes old words reply new h =
    let asks : Asks = asks_of words in
    let found : family.HasFamilyCauses (in_family asks).family (in_family asks).asks old reply new = family-causes (in_family asks).family (lawful asks) (in_family asks).asks old reply new h in
    let ends : IsComplete old reply new = searches-complete old reply new in
    let fronts : IsFrontComplete old reply new = fronts-complete old reply new in
    record {
      kind = found.kind;
      is = found.is;
      only = found.only;
      headline = record { only = λ k is. promises old words reply new asks refl k (found.only k is) };
      complete = λ S options few asked present enough. ends.complete S options few (subst (λ a. AnswersTo a old reply new) asked h) present enough;
      complete_warm = λ S options few asked present enough. ends.complete_warm S options few (subst (λ a. AnswersTo a old reply new) asked h) present enough;
      again = λ S options few asked present. ends.again S options few (subst (λ a. AnswersTo a old reply new) asked h) present;
      again_within = λ S options few asked present. ends.again_within S options few (subst (λ a. AnswersTo a old reply new) asked h) present;
      beside_ray = λ S options few asked present. ends.beside_ray S options few (subst (λ a. AnswersTo a old reply new) asked h) present;
      complete_front = λ S nodes pivots n asked present enough. fronts.complete S nodes pivots n (subst (λ a. AnswersTo a old reply new) asked h) present enough;
      beside_front = λ nodes pivots asked. fronts.beside nodes pivots (subst (λ a. AnswersTo a old reply new) asked h);
      exact = λ which numbers behind asked x read. bounds-exact which numbers behind old reply new (subst (λ a. AnswersTo a old reply new) asked h) x read;
      bounds = λ which numbers behind asked. bounds-unchanged (bounds.Bound which numbers behind) old reply new (subst (λ a. AnswersTo a old reply new) asked h);
      kept = found.kept;
      refused = found.refused;
      wanted = λ wanting other another third. found.wanted wanting (works-not asks other another third);
    }

-- a step that leaves what is sound is one as the product promises it
pub step-answered : (old : ShellState) (words : List (List ℕ)) (reply : List ℕ) (new : ShellState) → Step old words reply new → HasSoundSearch new.env → IsEnv new.env → HasScriptModel new.env → IsAnswered old words reply new
step-answered old words reply new h kept held script =
    let causes = step-causes old words reply new h in
    record {
      step = h;
      causes = causes;
      sound = kept;
      held = held;
      script = script;
      restored = λ name S asked closed done.
          closed-again old name S reply new closed kept
          (subst (λ a. cause_in a Done old reply new) asked (causes.only Done ([], done)));
    }
