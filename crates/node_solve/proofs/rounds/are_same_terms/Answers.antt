use Rattle.std.proofs.Common.{◌≡◌, refl, sym, ap, ◌∙◌, arith, length, get_or, below_more}
use Rattle.std.proofs.lemmas.Bool.{false≢true}
use Rattle.frac128.specs.Rational.{ℚ}
use Rattle.lp_model.specs.declared.types.ColId.{ColId}
use Rattle.lp_model.proofs.ElementLemmas.{get_or-read}
use Rattle.node_solve.proofs.TaskLemmas.{is_not, is_so, terms_are}
use Rattle.node_solve.proofs.rounds.are_same_terms.Goals as goal

pub returns-then-count-other : goal.returns-then-count-other
returns-then-count-other c = is_not (λ e. c.if-count-other.true (ap length e))

pub returns-then-not-is_same_term : goal.returns-then-not-is_same_term
returns-then-not-is_same_term c =
    let xs = c.args.first.now in
    let ys = c.args.second.now in
    let i = c.loop-index.index in
    is_not (λ e.
    let one : c.index-first-index.result ≡ c.index-second-index.result =
    get_or-read c.index-first-index.result xs xs i c.index-first-index.result refl (omega arith) c.index-first-index.is
    ∙ ap (λ l. get_or l i c.index-first-index.result) e
    ∙ sym (get_or-read c.index-first-index.result ys ys i c.index-second-index.result refl (omega arith) c.index-second-index.is) in
    false≢true (sym c.if-not-is_same_term.true ∙ c.is_same_term.ensures.1 one))

pub loop-index-preserved : goal.loop-index-preserved
loop-index-preserved c =
    let xs = c.args.first.now in
    let ys = c.args.second.now in
    let i = c.loop-index.index in
    let one : c.index-first-index.result ≡ c.index-second-index.result = c.is_same_term.ensures.0 c.if-not-is_same_term.false in
    below_more (λ k. (d : ColId × ℚ) → get_or xs k d ≡ get_or ys k d) i c.loop-index.invariant
    (λ d. sym (get_or-read d xs xs i c.index-first-index.result refl (omega arith) c.index-first-index.is) ∙ one ∙ get_or-read d ys ys i c.index-second-index.result refl (omega arith) c.index-second-index.is)

pub returns : goal.returns
returns c =
    let size : length c.args.first.now ≡ length c.args.second.now = c.if-count-other.false in
    is_so (terms_are c.args.first.now c.args.second.now size (λ k d q. c.loop-index.invariant k (omega (arith, q)) d))
