use Rattle.std.proofs.Common.{◌≡◌, ◌≤◌, ℕ, ◌<◌, List, [], ◌++◌, length, take, drop, length-drop, sym, subst, arith}
use Rattle.std.specs.Prelude.{Ok, Err, IfSome}
use Rattle.std.specs.Io.KnownBytes.{Consumes}
use Rattle.std.proofs.lemmas.List.{length-take-le}
use Rattle.script_session.specs.Request.{RequestStep}
use Rattle.script_session.specs.private.Session.{moment_of, ServesPiece, ServesRest}
use Rattle.script_session.specs.declared.session.Flow.{Flow}
use Rattle.script_session.specs.Limits.{piece_length}
use Rattle.script_session.proofs.CauseLemmas.{later_on, rose_on, sink_cause_on, piece_cause, rest_cause}
use Rattle.script_session.proofs.ReadLemmas.{ReadsOn-start, ReadsOn-more, read_failed, read_at_end, read_ended, read_overlong, read_stopped, front_parts}
use Rattle.script_session.proofs.session.Session.read_script.Goals as goal

pub loop-count-init : goal.loop-count-init
loop-count-init g c = record {
  reads = let old = moment_of c.args.self.now c.args.machine.now (g.W.Sink.written c.args.out.now) (g.S.Store.files c.args.store.now) (g.S.Store.faults c.args.store.now) in
      ReadsOn-start g.M.Machine.ends (RequestStep g.M.Machine.step) (g.R.Source.left c.args.script.now) old c.new-pending.result.items c.new-pending.ensures.items;
  limit = omega arith;
  source_later = omega arith;
  sink_later = omega arith;
  store_later = omega arith;
}

pub returns-in_default-clause-served : goal.returns-in_default-clause-served
returns-in_default-clause-served g c =
    let left = g.R.Source.left c.args.script.now in
    let left' = g.R.Source.left c.loop-count.script in
    let left'' = g.R.Source.left c.read.new.self in
    let handed = g.R.Source.handed c.read.new.self in
    let old = moment_of c.args.self.now c.args.machine.now (g.W.Sink.written c.args.out.now) (g.S.Store.files c.args.store.now) (g.S.Store.faults c.args.store.now) in
    let now = moment_of c.loop-count.self c.loop-count.machine (g.W.Sink.written c.loop-count.out) (g.S.Store.files c.loop-count.store) (g.S.Store.faults c.loop-count.store) in
    read_failed g.M.Machine.ends (RequestStep g.M.Machine.step) left left' left'' handed old now c.loop-count.taken c.loop-count.pending.items c.loop-count.invariant.reads c.loop-count.invariant.limit c.in_default.ensures.bytes c.in_default.ensures.piece

pub returns-then-count-eq0-clause-served : goal.returns-then-count-eq0-clause-served
returns-then-count-eq0-clause-served g c =
    let left = g.R.Source.left c.args.script.now in
    let left' = g.R.Source.left c.loop-count.script in
    let left'' = g.R.Source.left c.read.new.self in
    let handed = g.R.Source.handed c.read.new.self in
    let old = moment_of c.args.self.now c.args.machine.now (g.W.Sink.written c.args.out.now) (g.S.Store.files c.args.store.now) (g.S.Store.faults c.args.store.now) in
    let now = moment_of c.loop-count.self c.loop-count.machine (g.W.Sink.written c.loop-count.out) (g.S.Store.files c.loop-count.store) (g.S.Store.faults c.loop-count.store) in
    let new = moment_of c.serve_rest.new.self c.serve_rest.new.machine (g.W.Sink.written c.serve_rest.new.out) (g.S.Store.files c.serve_rest.new.store) (g.S.Store.faults c.serve_rest.new.store) in
    let kept = c.loop-count.pending.items in
    let nothing : Consumes left' left'' [] = subst (λ (n : ℕ). Consumes left' left'' (take n c.read.new.buf)) c.if-count-eq0.true c.in-Ok.ensures.bytes.0 in
    let out : IfSome handed (λ last. last ≡ []) = subst (λ (n : ℕ). IfSome handed (λ last. last ≡ take n c.read.new.buf)) c.if-count-eq0.true c.in-Ok.ensures.piece in
    let served = subst (λ (rest : List ℕ). ServesRest g.M.Machine.ends (RequestStep g.M.Machine.step) c.serve_rest.result now rest new) c.deref.ensures.value c.serve_rest.ensures.served in
    read_at_end g.M.Machine.ends (RequestStep g.M.Machine.step) c.serve_rest.result left left' left'' handed old now new c.loop-count.taken kept c.loop-count.invariant.reads c.loop-count.invariant.limit nothing (c.in-Ok.ensures.bytes.1 c.if-count-eq0.true (omega arith)) out served

pub returns-in-Err-clause-served : goal.returns-in-Err-clause-served
returns-in-Err-clause-served g c =
    let left = g.R.Source.left c.args.script.now in
    let left' = g.R.Source.left c.loop-count.script in
    let left'' = g.R.Source.left c.read.new.self in
    let handed = g.R.Source.handed c.read.new.self in
    let old = moment_of c.args.self.now c.args.machine.now (g.W.Sink.written c.args.out.now) (g.S.Store.files c.args.store.now) (g.S.Store.faults c.args.store.now) in
    let now = moment_of c.loop-count.self c.loop-count.machine (g.W.Sink.written c.loop-count.out) (g.S.Store.files c.loop-count.store) (g.S.Store.faults c.loop-count.store) in
    let new = moment_of c.feed.new.self c.feed.new.machine (g.W.Sink.written c.feed.new.out) (g.S.Store.files c.feed.new.store) (g.S.Store.faults c.feed.new.store) in
    let kept = c.loop-count.pending.items in
    let count = c.in-Ok.count in
    let bytes = take count c.read.new.buf in
    let piece = take c.min.result c.read.new.buf in
    let others = drop c.min.result bytes in
    let parts = front_parts c.min.result count c.read.new.buf (omega arith) in
    let bound = c.in-Ok.ensures.bound in
    let short : length bytes ≤ piece_length = omega arith in
    let long : length piece ≡ c.min.result = length-take-le c.min.result c.read.new.buf (omega arith) in
    read_stopped g.M.Machine.ends (RequestStep g.M.Machine.step) c.in-Err.stop left left' left'' handed old now new c.loop-count.taken kept bytes piece others c.feed.new.pending.items c.loop-count.invariant.reads c.loop-count.invariant.limit short c.in-Ok.ensures.bytes.0 c.in-Ok.ensures.piece parts (omega arith) c.in-Err.ensures.served

pub returns-in-Ok-Ended-clause-served : goal.returns-in-Ok-Ended-clause-served
returns-in-Ok-Ended-clause-served g c =
    let left = g.R.Source.left c.args.script.now in
    let left' = g.R.Source.left c.loop-count.script in
    let left'' = g.R.Source.left c.read.new.self in
    let handed = g.R.Source.handed c.read.new.self in
    let old = moment_of c.args.self.now c.args.machine.now (g.W.Sink.written c.args.out.now) (g.S.Store.files c.args.store.now) (g.S.Store.faults c.args.store.now) in
    let now = moment_of c.loop-count.self c.loop-count.machine (g.W.Sink.written c.loop-count.out) (g.S.Store.files c.loop-count.store) (g.S.Store.faults c.loop-count.store) in
    let new = moment_of c.feed.new.self c.feed.new.machine (g.W.Sink.written c.feed.new.out) (g.S.Store.files c.feed.new.store) (g.S.Store.faults c.feed.new.store) in
    let kept = c.loop-count.pending.items in
    let count = c.in-Ok.count in
    let bytes = take count c.read.new.buf in
    let piece = take c.min.result c.read.new.buf in
    let others = drop c.min.result bytes in
    let parts = front_parts c.min.result count c.read.new.buf (omega arith) in
    let bound = c.in-Ok.ensures.bound in
    let short : length bytes ≤ piece_length = omega arith in
    let long : length piece ≡ c.min.result = length-take-le c.min.result c.read.new.buf (omega arith) in
    let served = subst (λ (flow : Flow). ServesPiece g.M.Machine.ends (RequestStep g.M.Machine.step) (Ok flow) now (kept ++ piece) new c.feed.new.pending.items) c.in-Ok-Ended.field-0-is c.in-Ok-Ended.ensures.served in
    read_ended g.M.Machine.ends (RequestStep g.M.Machine.step) left left' left'' handed old now new c.loop-count.taken kept bytes piece others c.feed.new.pending.items c.loop-count.invariant.reads c.loop-count.invariant.limit short c.in-Ok.ensures.bytes.0 c.in-Ok.ensures.piece parts (omega arith) served

pub returns-then-count-room-clause-served : goal.returns-then-count-room-clause-served
returns-then-count-room-clause-served g c =
    let left = g.R.Source.left c.args.script.now in
    let left' = g.R.Source.left c.loop-count.script in
    let left'' = g.R.Source.left c.read.new.self in
    let handed = g.R.Source.handed c.read.new.self in
    let old = moment_of c.args.self.now c.args.machine.now (g.W.Sink.written c.args.out.now) (g.S.Store.files c.args.store.now) (g.S.Store.faults c.args.store.now) in
    let now = moment_of c.loop-count.self c.loop-count.machine (g.W.Sink.written c.loop-count.out) (g.S.Store.files c.loop-count.store) (g.S.Store.faults c.loop-count.store) in
    let new = moment_of c.feed.new.self c.feed.new.machine (g.W.Sink.written c.feed.new.out) (g.S.Store.files c.feed.new.store) (g.S.Store.faults c.feed.new.store) in
    let kept = c.loop-count.pending.items in
    let count = c.in-Ok.count in
    let bytes = take count c.read.new.buf in
    let piece = take c.min.result c.read.new.buf in
    let others = drop c.min.result bytes in
    let parts = front_parts c.min.result count c.read.new.buf (omega arith) in
    let bound = c.in-Ok.ensures.bound in
    let short : length bytes ≤ piece_length = omega arith in
    let long : length piece ≡ c.min.result = length-take-le c.min.result c.read.new.buf (omega arith) in
    let served = subst (λ (flow : Flow). ServesPiece g.M.Machine.ends (RequestStep g.M.Machine.step) (Ok flow) now (kept ++ piece) new c.feed.new.pending.items) c.in-Ok-Open.field-0-is c.in-Ok-Open.ensures.served in
    let some : 0 < length others = omega (arith, length-drop c.min.result bytes) in
    read_overlong g.M.Machine.ends (RequestStep g.M.Machine.step) left left' left'' handed old now new c.loop-count.taken kept bytes piece others c.feed.new.pending.items c.loop-count.invariant.reads c.loop-count.invariant.limit short c.in-Ok.ensures.bytes.0 c.in-Ok.ensures.piece parts (omega arith) some served

pub loop-count-preserved : goal.loop-count-preserved
loop-count-preserved g c =
    let left = g.R.Source.left c.args.script.now in
    let left' = g.R.Source.left c.loop-count.script in
    let left'' = g.R.Source.left c.read.new.self in
    let handed = g.R.Source.handed c.read.new.self in
    let old = moment_of c.args.self.now c.args.machine.now (g.W.Sink.written c.args.out.now) (g.S.Store.files c.args.store.now) (g.S.Store.faults c.args.store.now) in
    let now = moment_of c.loop-count.self c.loop-count.machine (g.W.Sink.written c.loop-count.out) (g.S.Store.files c.loop-count.store) (g.S.Store.faults c.loop-count.store) in
    let new = moment_of c.feed.new.self c.feed.new.machine (g.W.Sink.written c.feed.new.out) (g.S.Store.files c.feed.new.store) (g.S.Store.faults c.feed.new.store) in
    let kept = c.loop-count.pending.items in
    let count = c.in-Ok.count in
    let bytes = take count c.read.new.buf in
    let piece = take c.min.result c.read.new.buf in
    let others = drop c.min.result bytes in
    let parts = front_parts c.min.result count c.read.new.buf (omega arith) in
    let bound = c.in-Ok.ensures.bound in
    let short : length bytes ≤ piece_length = omega arith in
    let long : length piece ≡ c.min.result = length-take-le c.min.result c.read.new.buf (omega arith) in
    let served = subst (λ (flow : Flow). ServesPiece g.M.Machine.ends (RequestStep g.M.Machine.step) (Ok flow) now (kept ++ piece) new c.feed.new.pending.items) c.in-Ok-Open.field-0-is c.in-Ok-Open.ensures.served in
    let same : c.min.result ≡ count = omega arith in
    let consumed : Consumes left' left'' piece = subst (λ (n : ℕ). Consumes left' left'' (take n c.read.new.buf)) (sym same) c.in-Ok.ensures.bytes.0 in
    record {
      reads = ReadsOn-more g.M.Machine.ends (RequestStep g.M.Machine.step) left left' left'' old now new c.loop-count.taken count kept piece c.feed.new.pending.items c.loop-count.invariant.reads consumed (omega arith) served;
      limit = omega arith;
      source_later = later_on _ _ _ c.loop-count.invariant.source_later c.read.ensures.later;
      sink_later = later_on _ _ _ c.loop-count.invariant.sink_later c.feed.ensures.later;
      store_later = later_on _ _ _ c.loop-count.invariant.store_later c.feed.ensures.store_later;
    }

pub loop-count-smaller : goal.loop-count-smaller
loop-count-smaller g c = let limit = c.loop-count.invariant.limit in omega arith

pub returns-in_default-clause-source_cause : goal.returns-in_default-clause-source_cause
returns-in_default-clause-source_cause g c = rose_on _ _ _ c.loop-count.invariant.source_later c.in_default.ensures.failed

pub returns-in_default-clause-source_later : goal.returns-in_default-clause-source_later
returns-in_default-clause-source_later g c = later_on _ _ _ c.loop-count.invariant.source_later c.read.ensures.later

pub returns-then-count-eq0-clause-source_cause : goal.returns-then-count-eq0-clause-source_cause
returns-then-count-eq0-clause-source_cause g c =
    let now = moment_of c.loop-count.self c.loop-count.machine (g.W.Sink.written c.loop-count.out) (g.S.Store.files c.loop-count.store) (g.S.Store.faults c.loop-count.store) in
    let new = moment_of c.serve_rest.new.self c.serve_rest.new.machine (g.W.Sink.written c.serve_rest.new.out) (g.S.Store.files c.serve_rest.new.store) (g.S.Store.faults c.serve_rest.new.store) in
    rest_cause g.M.Machine.ends (RequestStep g.M.Machine.step) c.serve_rest.result now new c.deref.result.now _ _ c.serve_rest.ensures.served

pub returns-then-count-eq0-clause-sink_cause : goal.returns-then-count-eq0-clause-sink_cause
returns-then-count-eq0-clause-sink_cause g c = sink_cause_on c.serve_rest.result _ _ _ c.loop-count.invariant.sink_later c.serve_rest.ensures.cause

pub returns-then-count-eq0-clause-source_later : goal.returns-then-count-eq0-clause-source_later
returns-then-count-eq0-clause-source_later g c = later_on _ _ _ c.loop-count.invariant.source_later c.read.ensures.later

pub returns-then-count-eq0-clause-sink_later : goal.returns-then-count-eq0-clause-sink_later
returns-then-count-eq0-clause-sink_later g c = later_on _ _ _ c.loop-count.invariant.sink_later c.serve_rest.ensures.later

pub returns-then-count-eq0-clause-store_later : goal.returns-then-count-eq0-clause-store_later
returns-then-count-eq0-clause-store_later g c = later_on _ _ _ c.loop-count.invariant.store_later c.serve_rest.ensures.store_later

pub returns-in-Err-clause-source_cause : goal.returns-in-Err-clause-source_cause
returns-in-Err-clause-source_cause g c =
    let now = moment_of c.loop-count.self c.loop-count.machine (g.W.Sink.written c.loop-count.out) (g.S.Store.files c.loop-count.store) (g.S.Store.faults c.loop-count.store) in
    let new = moment_of c.feed.new.self c.feed.new.machine (g.W.Sink.written c.feed.new.out) (g.S.Store.files c.feed.new.store) (g.S.Store.faults c.feed.new.store) in
    let piece = take c.min.result c.read.new.buf in
    piece_cause g.M.Machine.ends (RequestStep g.M.Machine.step) c.in-Err.stop now new (c.loop-count.pending.items ++ piece) c.feed.new.pending.items _ _ c.in-Err.ensures.served

pub returns-in-Err-clause-sink_cause : goal.returns-in-Err-clause-sink_cause
returns-in-Err-clause-sink_cause g c = sink_cause_on {T = Unit {0}} (Err c.in-Err.stop) _ _ _ c.loop-count.invariant.sink_later c.in-Err.ensures.cause

pub returns-in-Err-clause-source_later : goal.returns-in-Err-clause-source_later
returns-in-Err-clause-source_later g c = later_on _ _ _ c.loop-count.invariant.source_later c.read.ensures.later

pub returns-in-Err-clause-sink_later : goal.returns-in-Err-clause-sink_later
returns-in-Err-clause-sink_later g c = later_on _ _ _ c.loop-count.invariant.sink_later c.feed.ensures.later

pub returns-in-Err-clause-store_later : goal.returns-in-Err-clause-store_later
returns-in-Err-clause-store_later g c = later_on _ _ _ c.loop-count.invariant.store_later c.feed.ensures.store_later

pub returns-in-Ok-Ended-clause-source_later : goal.returns-in-Ok-Ended-clause-source_later
returns-in-Ok-Ended-clause-source_later g c = later_on _ _ _ c.loop-count.invariant.source_later c.read.ensures.later

pub returns-in-Ok-Ended-clause-sink_later : goal.returns-in-Ok-Ended-clause-sink_later
returns-in-Ok-Ended-clause-sink_later g c = later_on _ _ _ c.loop-count.invariant.sink_later c.feed.ensures.later

pub returns-in-Ok-Ended-clause-store_later : goal.returns-in-Ok-Ended-clause-store_later
returns-in-Ok-Ended-clause-store_later g c = later_on _ _ _ c.loop-count.invariant.store_later c.feed.ensures.store_later

pub returns-then-count-room-clause-source_later : goal.returns-then-count-room-clause-source_later
returns-then-count-room-clause-source_later g c = later_on _ _ _ c.loop-count.invariant.source_later c.read.ensures.later

pub returns-then-count-room-clause-sink_later : goal.returns-then-count-room-clause-sink_later
returns-then-count-room-clause-sink_later g c = later_on _ _ _ c.loop-count.invariant.sink_later c.feed.ensures.later

pub returns-then-count-room-clause-store_later : goal.returns-then-count-room-clause-store_later
returns-then-count-room-clause-store_later g c = later_on _ _ _ c.loop-count.invariant.store_later c.feed.ensures.store_later
