-- What one more line adds to what some lines state.
use Rattle.std.proofs.Common.{◌≡◌, ℕ, suc, ◌+◌, ◌<◌, List, [], ◌∷◌, ◌++◌, length, take, get_or, refl, sym, ap, ◌∙◌, arith, below_more}
use Rattle.std.specs.Prelude.{Option, None, Result, Ok, Err}
use Rattle.std.proofs.Math.Seq.{take-suc}
use Rattle.front_text.specs.declared.front_line.FrontStatement.{FrontStatement}
use Rattle.front_text.specs.declared.front_line.FrontStatement.TheVariants.{Header, Outcome, Point, Tree, Cut, Node, End, Foreign}
use Rattle.front_text.specs.Lines.{front_line_says}
use Rattle.front_text.specs.Text.{StatedFront, nothing_stated, with_statement, after_line, stated_behind, stated_front, front_code_in, front_code_at, AreFrontClean}

behind_more : (s : StatedFront) (lines : List (List ℕ)) (line : List ℕ) → stated_behind s (lines ++ line ∷ []) ≡ after_line (stated_behind s lines) (front_line_says line)
behind_more s [] line = refl
behind_more s (l ∷ lines) line = behind_more (after_line s (front_line_says l)) lines line

pub stated_more : (lines : List (List ℕ)) (line : List ℕ) → stated_front (lines ++ line ∷ []) ≡ after_line (stated_front lines) (front_line_says line)
unfolding stated_front
stated_more lines line = behind_more nothing_stated lines line

-- ---- how many lines there are

one_counted : (s : StatedFront) (statement : FrontStatement) → (with_statement s statement).count ≡ s.count + 1
one_counted s Header = refl
one_counted s (Outcome v1 v2) = refl
one_counted s (Point named) = refl
one_counted s (Tree of) = refl
one_counted s (Cut cut) = refl
one_counted s (Node node) = refl
one_counted s End = refl
one_counted s Foreign = refl

line_counted : (s : StatedFront) (said : Result FrontStatement ℕ) → (after_line s said).count ≡ s.count + 1
line_counted s (Ok statement) = one_counted s statement
line_counted s (Err code) = refl

behind_counted : (s : StatedFront) (lines : List (List ℕ)) → (stated_behind s lines).count ≡ s.count + length lines
behind_counted s [] = omega arith
behind_counted s (line ∷ lines) =
    let more = behind_counted (after_line s (front_line_says line)) lines in
    let one = line_counted s (front_line_says line) in
    omega (arith, more, one)

pub counted : (lines : List (List ℕ)) → (stated_front lines).count ≡ length lines
unfolding stated_front
counted lines = let all = behind_counted nothing_stated lines in omega (arith, all)

-- ---- line by line

module _ (lines : List (List ℕ)) (k : ℕ) (below : k < length lines) where
  pub taken_more : stated_front (take (k + 1) lines) ≡ after_line (stated_front (take k lines)) (front_line_says (get_or lines k []))
  taken_more =
      let next : k + 1 ≡ suc k = omega arith in
      ap (λ n. stated_front (take n lines)) next ∙ ap stated_front (take-suc lines k [] below) ∙ stated_more (take k lines) (get_or lines k [])

  -- the code of a line by what is held
  module _ (s : StatedFront) (line : List ℕ) (code : Option ℕ) (holds : s ≡ stated_front (take k lines)) (is : line ≡ get_or lines k []) (has : front_code_in s (front_line_says line) ≡ code) where
    pub code_here : front_code_at lines k ≡ code
    unfolding front_code_at
    code_here = (λ i. front_code_in (sym holds i) (front_line_says (sym is i))) ∙ has

    pub holds_more : (t : StatedFront) → t ≡ after_line s (front_line_says line) → t ≡ stated_front (take (k + 1) lines)
    holds_more t e = e ∙ (λ i. after_line (holds i) (front_line_says (is i))) ∙ sym taken_more

pub clean_more : (lines : List (List ℕ)) (k : ℕ) → AreFrontClean lines k → front_code_at lines k ≡ None → AreFrontClean lines (k + 1)
clean_more lines k clean here = below_more (λ j. front_code_at lines j ≡ None) k clean here
