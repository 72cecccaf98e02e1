use Rattle.std.proofs.Common.{List, ℕ, ◌<◌, length, take, sym, arith, subst}
use Rattle.std.specs.Io.KnownBytes.{Appends}
use Rattle.std.proofs.lemmas.Bool.Decides.{nat_tests}
use Rattle.script_session.proofs.OutputLemmas.{Sends, Sends-more, broken_off, none_taken, from_on}
use Rattle.script_session.proofs.output.write_all.Goals as goal

pub returns-in_default-clause-err : goal.returns-in_default-clause-err
returns-in_default-clause-err g c =
    let written = g.W.Sink.written in
    let rest = c.loop-rest.rest.now in
    let some : 0 < length rest = grind (arith, nat_tests) in
    broken_off (written c.args.out.now) (written c.loop-rest.out) (written c.write.new.self) c.args.bytes.now rest c.loop-rest.invariant.sent c.in_default.ensures.bytes some

pub returns-then-count-eq0-clause-err : goal.returns-then-count-eq0-clause-err
returns-then-count-eq0-clause-err g c =
    let written = g.W.Sink.written in
    let rest = c.loop-rest.rest.now in
    let some : 0 < length rest = grind (arith, nat_tests) in
    let none = subst (λ (n : ℕ). Appends (written c.loop-rest.out) (written c.write.new.self) (take n rest)) c.if-count-eq0.true c.in-Ok.ensures.bytes in
    none_taken (written c.args.out.now) (written c.loop-rest.out) (written c.write.new.self) c.args.bytes.now rest c.loop-rest.invariant.sent none some

pub loop-rest-preserved : goal.loop-rest-preserved
loop-rest-preserved g c =
    let written = g.W.Sink.written in
    let rest = c.loop-rest.rest.now in
    let count = c.in-Ok.count in
    record {
      sent = subst (λ (left : List ℕ). Sends (written c.args.out.now) (written c.write.new.self) c.args.bytes.now left) (sym (from_on count rest)) (Sends-more _ _ _ c.args.bytes.now rest count c.loop-rest.invariant.sent c.in-Ok.ensures.bytes);
      later = omega arith;
    }
