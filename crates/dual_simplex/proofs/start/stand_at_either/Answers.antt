use Rattle.std.proofs.Common.{subst, inl, inr, Ok}
use Rattle.basic_solution.specs.ListedStates.{IsStoodAt}
use Rattle.dual_simplex.specs.private.Starts.{IsLeftThere}
use Rattle.dual_simplex.proofs.start.stand_at_either.Goals as goal

pub returns-in-Err-clause-wide : goal.returns-in-Err-clause-wide
returns-in-Err-clause-wide c = inl (record { kept = c.stand_at.ensures.kept; way = c.stand_at.ensures.way; answer = c.in-Err.ensures.answer })

pub returns-in-Ok-true-clause-stood : goal.returns-in-Ok-true-clause-stood
returns-in-Ok-true-clause-stood c = inl (record {
  kept = c.stand_at.ensures.kept;
  way = c.stand_at.ensures.way;
  answer = subst (λ b. IsStoodAt c.args.state.now c.args.list.now (Ok b) c.stand_at.new.self) c.in-Ok-true.field-0-test c.in-Ok-true.ensures.answer;
})

pub returns-in-Err-stand_at-clause-wide : goal.returns-in-Err-stand_at-clause-wide
returns-in-Err-stand_at-clause-wide c =
    let left : IsLeftThere c.args.list.now c.args.state.now c.stand_at.new.self = record {
      stood = record {
        kept = c.stand_at.ensures.kept;
        way = c.stand_at.ensures.way;
        answer = subst (λ b. IsStoodAt c.args.state.now c.args.list.now (Ok b) c.stand_at.new.self) c.in-Ok-false.field-0-test c.in-Ok-false.ensures.answer;
      };
      sided = c.columns-left.ensures.sided;
      full = c.columns-left.ensures.full;
    } in
    inr (c.stand_at.new.self, (left, record { kept = c.stand_at-2.ensures.kept; way = c.stand_at-2.ensures.way; answer = c.in-Err-stand_at.ensures.answer }))

pub returns-in-Ok-clause-stood : goal.returns-in-Ok-clause-stood
returns-in-Ok-clause-stood c =
    let left : IsLeftThere c.args.list.now c.args.state.now c.stand_at.new.self = record {
      stood = record {
        kept = c.stand_at.ensures.kept;
        way = c.stand_at.ensures.way;
        answer = subst (λ b. IsStoodAt c.args.state.now c.args.list.now (Ok b) c.stand_at.new.self) c.in-Ok-false.field-0-test c.in-Ok-false.ensures.answer;
      };
      sided = c.columns-left.ensures.sided;
      full = c.columns-left.ensures.full;
    } in
    inr (c.stand_at.new.self, (left, (c.in-Ok.field-0, record { kept = c.stand_at-2.ensures.kept; way = c.stand_at-2.ensures.way; answer = c.in-Ok.ensures.answer })))
