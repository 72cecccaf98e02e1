use Rattle.std.proofs.Common.{rules, ◌≡◌, ◌<◌, List, ℕ, ◌++◌, sym, ap, subst, arith, length, length-append, false}
use Rattle.std.specs.Prelude.{Ok, Err}
use Rattle.std.proofs.lemmas.List.Elements.{All-append, All-nil}
use Rattle.script_session.specs.Request.{RequestStep}
use Rattle.text_lines.specs.Lines.{is_newline, HasNoNewline, ended_line}
use Rattle.script_session.specs.private.Session.{moment_of, ServesLine, ServesPiece}
use Rattle.script_session.specs.declared.session.Flow.{Flow}
use Rattle.script_session.specs.declared.session.Flow.TheVariants.{Open}
use Rattle.script_session.proofs.PieceLemmas.{Stands, Stands-start, Stands-line, Stands-joined, piece_ended, piece_failed, piece_wanting, piece_open}
use Rattle.script_session.proofs.CauseLemmas.{later_on, sink_cause_on}
use Rattle.script_session.proofs.session.Session.feed.Goals as goal

pub loop-line-init : goal.loop-line-init
loop-line-init g c =
    let written = g.W.Sink.written in
    let files = g.S.Store.files in
    let faults = g.S.Store.faults in
    let old = moment_of c.args.self.now c.args.machine.now (written c.args.out.now) (files c.args.store.now) (faults c.args.store.now) in
    record { stands = Stands-start g.M.Machine.ends (RequestStep g.M.Machine.step) old (c.args.pending.now.items ++ c.args.piece.now); clean = c.requires; later = omega arith; store_later = omega arith }

pub returns-in-Ok-Ended-clause-served : goal.returns-in-Ok-Ended-clause-served
returns-in-Ok-Ended-clause-served g c =
    let written = g.W.Sink.written in
    let files = g.S.Store.files in
    let faults = g.S.Store.faults in
    let old = moment_of c.args.self.now c.args.machine.now (written c.args.out.now) (files c.args.store.now) (faults c.args.store.now) in
    let now = moment_of c.loop-line.self c.loop-line.machine (written c.loop-line.out) (files c.loop-line.store) (faults c.loop-line.store) in
    let bytes = c.args.pending.now.items ++ c.args.piece.now in
    let kept = c.loop-line.pending.items in
    let new = moment_of c.serve_joined.new.self c.serve_joined.new.machine (written c.serve_joined.new.out) (files c.serve_joined.new.store) (faults c.serve_joined.new.store) in
    let line = c.in-Some.line.now in
    let more = c.in-Some.more.now in
    let whole = kept ++ line in
    let clean = All-append (λ byte. is_newline byte ≡ false) kept line c.loop-line.invariant.clean c.in-Some.ensures.clean in
    let stands = Stands-joined g.M.Machine.ends (RequestStep g.M.Machine.step) old now bytes kept line more c.loop-line.rest.now c.in-Some.ensures.parts c.loop-line.invariant.stands in
    let served = subst (λ (flow : Flow). ServesLine g.M.Machine.ends (RequestStep g.M.Machine.step) (Ok flow) now (ended_line whole) new) c.in-Ok-Ended.field-0-is c.in-Ok-Ended.ensures.served in
    piece_ended g.M.Machine.ends (RequestStep g.M.Machine.step) old now new bytes whole more c.serve_joined.new.pending.items clean stands served

pub returns-in-Err-clause-served : goal.returns-in-Err-clause-served
returns-in-Err-clause-served g c =
    let written = g.W.Sink.written in
    let files = g.S.Store.files in
    let faults = g.S.Store.faults in
    let old = moment_of c.args.self.now c.args.machine.now (written c.args.out.now) (files c.args.store.now) (faults c.args.store.now) in
    let now = moment_of c.loop-line.self c.loop-line.machine (written c.loop-line.out) (files c.loop-line.store) (faults c.loop-line.store) in
    let bytes = c.args.pending.now.items ++ c.args.piece.now in
    let kept = c.loop-line.pending.items in
    let new = moment_of c.serve_joined.new.self c.serve_joined.new.machine (written c.serve_joined.new.out) (files c.serve_joined.new.store) (faults c.serve_joined.new.store) in
    let line = c.in-Some.line.now in
    let more = c.in-Some.more.now in
    let whole = kept ++ line in
    let clean = All-append (λ byte. is_newline byte ≡ false) kept line c.loop-line.invariant.clean c.in-Some.ensures.clean in
    let stands = Stands-joined g.M.Machine.ends (RequestStep g.M.Machine.step) old now bytes kept line more c.loop-line.rest.now c.in-Some.ensures.parts c.loop-line.invariant.stands in
    piece_failed g.M.Machine.ends (RequestStep g.M.Machine.step) c.in-Err.stop old now new bytes whole more c.serve_joined.new.pending.items clean stands c.in-Err.ensures.served

pub loop-line-preserved : goal.loop-line-preserved
loop-line-preserved g c =
    let written = g.W.Sink.written in
    let files = g.S.Store.files in
    let faults = g.S.Store.faults in
    let old = moment_of c.args.self.now c.args.machine.now (written c.args.out.now) (files c.args.store.now) (faults c.args.store.now) in
    let now = moment_of c.loop-line.self c.loop-line.machine (written c.loop-line.out) (files c.loop-line.store) (faults c.loop-line.store) in
    let bytes = c.args.pending.now.items ++ c.args.piece.now in
    let kept = c.loop-line.pending.items in
    let new = moment_of c.serve_joined.new.self c.serve_joined.new.machine (written c.serve_joined.new.out) (files c.serve_joined.new.store) (faults c.serve_joined.new.store) in
    let line = c.in-Some.line.now in
    let more = c.in-Some.more.now in
    let whole = kept ++ line in
    let clean = All-append (λ byte. is_newline byte ≡ false) kept line c.loop-line.invariant.clean c.in-Some.ensures.clean in
    let stands = Stands-joined g.M.Machine.ends (RequestStep g.M.Machine.step) old now bytes kept line more c.loop-line.rest.now c.in-Some.ensures.parts c.loop-line.invariant.stands in
    let served = subst (λ (flow : Flow). ServesLine g.M.Machine.ends (RequestStep g.M.Machine.step) (Ok flow) now (ended_line whole) new) c.in-Ok-Open.field-0-is c.in-Ok-Open.ensures.served in
    let after = Stands-line g.M.Machine.ends (RequestStep g.M.Machine.step) old now new bytes whole more clean stands served in
    record {
      stands = subst (λ (kept : List ℕ). Stands g.M.Machine.ends (RequestStep g.M.Machine.step) old bytes new (kept ++ more)) (sym c.in-Ok-Open.ensures.cleared) after;
      clean = subst HasNoNewline (sym c.in-Ok-Open.ensures.cleared) (All-nil (λ byte. is_newline byte ≡ false));
      later = later_on _ _ _ c.loop-line.invariant.later c.serve_joined.ensures.later;
      store_later = later_on _ _ _ c.loop-line.invariant.store_later c.serve_joined.ensures.store_later;
    }

pub returns-in-Ok-clause-served : goal.returns-in-Ok-clause-served
returns-in-Ok-clause-served g c =
    let written = g.W.Sink.written in
    let files = g.S.Store.files in
    let faults = g.S.Store.faults in
    let old = moment_of c.args.self.now c.args.machine.now (written c.args.out.now) (files c.args.store.now) (faults c.args.store.now) in
    let now = moment_of c.loop-line.self c.loop-line.machine (written c.loop-line.out) (files c.loop-line.store) (faults c.loop-line.store) in
    let bytes = c.args.pending.now.items ++ c.args.piece.now in
    let kept = c.loop-line.pending.items in
    let rest = c.loop-line.rest.now in
    let none : HasNoNewline rest = search rules in
    let clean = All-append (λ byte. is_newline byte ≡ false) kept rest c.loop-line.invariant.clean none in
    subst (λ (left : List ℕ). ServesPiece g.M.Machine.ends (RequestStep g.M.Machine.step) (Ok Open) old bytes now left) (sym c.in-Ok.ensures.items)
    (piece_open g.M.Machine.ends (RequestStep g.M.Machine.step) old now bytes (kept ++ rest) clean c.loop-line.invariant.stands)

pub returns-in-Err-extend_from_slice-clause-served : goal.returns-in-Err-extend_from_slice-clause-served
returns-in-Err-extend_from_slice-clause-served g c =
    let written = g.W.Sink.written in
    let files = g.S.Store.files in
    let faults = g.S.Store.faults in
    let old = moment_of c.args.self.now c.args.machine.now (written c.args.out.now) (files c.args.store.now) (faults c.args.store.now) in
    let now = moment_of c.loop-line.self c.loop-line.machine (written c.loop-line.out) (files c.loop-line.store) (faults c.loop-line.store) in
    let bytes = c.args.pending.now.items ++ c.args.piece.now in
    let kept = c.loop-line.pending.items in
    let rest = c.loop-line.rest.now in
    let size = c.loop-line.pending.ok.0 in
    let some : 0 < length (kept ++ rest) = omega (arith, size, c.in-Err-extend_from_slice.ensures.full, length-append kept rest) in
    piece_wanting g.M.Machine.ends (RequestStep g.M.Machine.step) old now bytes (kept ++ rest) c.extend_from_slice.new.self.items c.loop-line.invariant.stands some

pub loop-line-smaller : goal.loop-line-smaller
loop-line-smaller g c = let parts = ap (length) c.in-Some.ensures.parts in omega (arith, simp length-append at parts)

pub returns-in-Ok-Ended-clause-later : goal.returns-in-Ok-Ended-clause-later
returns-in-Ok-Ended-clause-later g c = later_on _ _ _ c.loop-line.invariant.later c.serve_joined.ensures.later

pub returns-in-Ok-Ended-clause-store_later : goal.returns-in-Ok-Ended-clause-store_later
returns-in-Ok-Ended-clause-store_later g c = later_on _ _ _ c.loop-line.invariant.store_later c.serve_joined.ensures.store_later

pub returns-in-Err-clause-cause : goal.returns-in-Err-clause-cause
returns-in-Err-clause-cause g c = sink_cause_on {T = Flow} (Err c.in-Err.stop) _ _ _ c.loop-line.invariant.later c.in-Err.ensures.cause

pub returns-in-Err-clause-later : goal.returns-in-Err-clause-later
returns-in-Err-clause-later g c = later_on _ _ _ c.loop-line.invariant.later c.serve_joined.ensures.later

pub returns-in-Err-clause-store_later : goal.returns-in-Err-clause-store_later
returns-in-Err-clause-store_later g c = later_on _ _ _ c.loop-line.invariant.store_later c.serve_joined.ensures.store_later
