-- A script as it is read, piece by piece.
use Rattle.std.proofs.Common.{◌≡◌, ℕ, ◌≤◌, ◌<◌, ◌+◌, ◌-◌, List, [], ◌∷◌, ◌++◌, length, take, drop, refl, sym, ◌∙◌, ap, append_assoc, append-nil, subst, arith, Option, Some, None, true, false, Bool, length-append, inl, inr}
use Rattle.std.specs.Prelude.{Result, Ok, Err, IfSome, if◌then◌else◌}
use Rattle.std.specs.Io.KnownBytes.{Consumes, Keeps, IsAtEnd}
use Rattle.std.specs.List.{list_any}
use Rattle.std.proofs.lemmas.List.{take-append-drop, take-take, take_all}
use Rattle.std.proofs.lemmas.List.Elements.{All-nil}
use Rattle.std.proofs.Math.Seq.{take-append_seam, take-append-add}
use Rattle.script_session.specs.Run.{IsLastRead, IsPrompt}
use Rattle.script_session.specs.Request.{Command, Request}
use Rattle.text_lines.specs.Lines.{HasNoNewline, is_newline, last_line}
use Rattle.text_lines.proofs.LineLemmas.{lines-nothing, lines-last}
use Rattle.text_lines.proofs.WordLemmas.{something}
use Rattle.script_session.specs.Script.{requests, line_requests, is_end, script_requests, whole_requests, has_ending}
use Rattle.script_session.specs.private.Session.{Moment, Serves, Breaks, Wants, Halts, StopsShort, Reads, Begins, ServesLine, ServesPiece, ServesRest, ServesTaken, ServesScript}
use Rattle.script_session.specs.Stand.{Stand}
use Rattle.script_session.specs.declared.session.Flow.TheVariants.{Open, Ended}
use Rattle.script_session.specs.declared.session.Stop.{Stop}
use Rattle.script_session.specs.declared.session.Stop.TheVariants as stop
use Rattle.script_session.specs.Limits.{script_limit, piece_length}
use Rattle.script_session.proofs.SessionLemmas.{Transcript-length, Wants-more, Serves-none, Serves-append, Serves-Breaks-behind}
use Rattle.script_session.proofs.ScriptLemmas.{whole_lines-none, reads-all, reads-whole, reads-ending, Reads-append, Reads-more, Reads-Finishes, Reads-Begins, nil_right}
use Rattle.script_session.proofs.PieceLemmas.{Stands, Stands-start}

-- the bytes taken so far, of which pending follows the last newline
pub record ReadsOn {M : Type 0} (ends : Command → Bool) (step : Stand M → Request → List ℕ → Stand M → Type 0) (left left' : Option (List ℕ)) (old now : Moment M) (count : ℕ) (pending : List ℕ) : Type 0 where
  pub taken : List ℕ
  pub consumed : Consumes left left' taken
  pub length_is : length taken ≡ count
  pub stands : Stands ends step old taken now pending
  pub clean : HasNoNewline pending

either_none : (b : Bool) (none : List Request) → (if b then none else none) ≡ none
either_none true none = refl
either_none false none = refl

Consumes-none : (a : Option (List ℕ)) → Consumes a a []
Consumes-none None = tt
Consumes-none (Some xs) = refl

Consumes-append : (a b c : Option (List ℕ)) (xs ys : List ℕ) → Consumes a b xs → Consumes b c ys → Consumes a c (xs ++ ys)
Consumes-append None b c xs ys h k = tt
Consumes-append (Some ws) None c xs ys h k = absurd h
Consumes-append (Some ws) (Some vs) None xs ys h k = absurd k
Consumes-append (Some ws) (Some vs) (Some us) xs ys h k = h ∙ ap (λ zs. xs ++ zs) k ∙ sym (append_assoc xs ys us)

front_then : (n : ℕ) (xs ys : List ℕ) → length xs ≤ n → take n (xs ++ ys) ≡ xs ++ take (n - length xs) ys
front_then n xs ys le = let e : n ≡ length xs + (n - length xs) = omega arith in ap (λ k. take k (xs ++ ys)) e ∙ take-append-add xs ys (n - length xs)

some_more : (xs ys : List ℕ) → 0 < length xs → 0 < length (xs ++ ys)
some_more xs ys some = omega (arith, some, length-append xs ys)

front_is : (n : ℕ) (xs ys : List ℕ) → length xs ≡ n → take n (xs ++ ys) ≡ xs
front_is n xs ys e = ap (λ k. take k (xs ++ ys)) (sym e) ∙ take-append_seam xs ys

pub front_parts : (m n : ℕ) (xs : List ℕ) → m ≤ n → take n xs ≡ take m xs ++ drop m (take n xs)
front_parts m n xs le = sym (ap (λ ys. ys ++ drop m (take n xs)) (sym (take-take m n xs le)) ∙ take-append-drop m (take n xs))

pub Consumes-kept : (a b : Option (List ℕ)) → Keeps a b → Consumes a b []
Consumes-kept None b h = tt
Consumes-kept (Some xs) None h = absurd h
Consumes-kept (Some xs) (Some ys) h = sym h

module _ (ends : Command → Bool) where
  pub script-rest : (line : List ℕ) → HasNoNewline line → 0 < length line → script_requests ends line ≡ line_requests (last_line line)
  unfolding script_requests requests
  script-rest line clean some =
      ap (requests ends) (lines-last line clean (something line some))
      ∙ ap (λ rest. line_requests (last_line line) ++ rest) (either_none (is_end ends (last_line line)) []) ∙ nil_right (line_requests (last_line line))

  pub script-empty : script_requests ends [] ≡ []
  unfolding script_requests requests
  script-empty = ap (requests ends) lines-nothing

  pub whole-rest : (line : List ℕ) → HasNoNewline line → whole_requests ends line ≡ []
  unfolding whole_requests requests
  whole-rest line clean = ap (requests ends) (whole_lines-none line clean)

  pub ending-rest : (line : List ℕ) → HasNoNewline line → has_ending ends line ≡ false
  unfolding has_ending
  ending-rest line clean = ap (list_any (is_end ends)) (whole_lines-none line clean)

  pub whole_taken : (bytes : List ℕ) (done : List Request) (pending : List ℕ) → Reads ends bytes done pending → HasNoNewline pending → whole_requests ends bytes ≡ done
  whole_taken bytes done pending r clean =
      ap (whole_requests ends) (sym (append-nil bytes)) ∙ reads-whole ends bytes done pending [] r ∙ ap (λ requests. done ++ requests) (ap (whole_requests ends) (append-nil pending) ∙ whole-rest pending clean) ∙ nil_right done

  pub ending_taken : (bytes : List ℕ) (done : List Request) (pending : List ℕ) → Reads ends bytes done pending → HasNoNewline pending → has_ending ends bytes ≡ false
  ending_taken bytes done pending r clean = ap (has_ending ends) (sym (append-nil bytes)) ∙ reads-ending ends bytes done pending [] r ∙ ap (has_ending ends) (append-nil pending) ∙ ending-rest pending clean

  all_taken : (bytes : List ℕ) (done : List Request) (pending : List ℕ) → Reads ends bytes done pending → script_requests ends bytes ≡ done ++ script_requests ends pending
  all_taken bytes done pending r = ap (script_requests ends) (sym (append-nil bytes)) ∙ reads-all ends bytes done pending [] r ∙ ap (λ xs. done ++ script_requests ends xs) (append-nil pending)

  nothing : HasNoNewline []
  nothing = All-nil (λ byte. is_newline byte ≡ false)

  -- the lines that were gone through ask what was asked, and none of them ends the script
  seen_asks : (bytes : List ℕ) (done : List Request) (left : List ℕ) (r : Reads ends bytes done left) → whole_requests ends r.seen ≡ done
  seen_asks bytes done left r = ap (whole_requests ends) (sym (append-nil r.seen)) ∙ r.whole [] ∙ ap (λ requests. done ++ requests) (whole-rest [] nothing) ∙ nil_right done

  seen_unended : (bytes : List ℕ) (done : List Request) (left : List ℕ) (r : Reads ends bytes done left) → has_ending ends r.seen ≡ false
  seen_unended bytes done left r = ap (has_ending ends) (sym (append-nil r.seen)) ∙ r.ending [] ∙ ending-rest [] nothing

  -- what the whole lines ask has its replies
  prompt : (front : List ℕ) (done : List Request) (pending : List ℕ) (replies : List (List ℕ)) → Reads ends front done pending → HasNoNewline pending → length done ≤ length replies → IsPrompt ends front replies
  prompt front done pending replies r clean le = subst (λ (requests : List Request). length requests ≤ length replies) (sym (whole_taken front done pending r clean)) le

module _ {M : Type 0} (ends : Command → Bool) (step : Stand M → Request → List ℕ → Stand M → Type 0) where
  pub rest_failed : (fault : Stop) (old new : Moment M) (pending : List ℕ) → HasNoNewline pending → 0 < length pending → ServesLine ends step (Err fault) old (last_line pending) new → ServesRest ends step (Err fault) old pending new
  rest_failed stop.Sink old new pending clean some h = subst (λ requests. Breaks step old requests new) (sym (script-rest ends pending clean some)) h
  rest_failed stop.Memory old new pending clean some h = (subst (λ requests. Wants step old requests new) (sym (script-rest ends pending clean some)) h, some)
  rest_failed stop.Source old new pending clean some h = h
  rest_failed stop.TooLong old new pending clean some h = h

  pub rest_done : (old new : Moment M) (pending : List ℕ) → HasNoNewline pending → 0 < length pending → Serves step old (line_requests (last_line pending)) new → Serves step old (script_requests ends pending) new
  rest_done old new pending clean some h = subst (λ requests. Serves step old requests new) (sym (script-rest ends pending clean some)) h

  pub rest_none : (old : Moment M) (pending : List ℕ) → length pending ≡ 0 → Serves step old (script_requests ends pending) old
  rest_none old [] none = subst (λ requests. Serves step old requests old) (sym (script-empty ends)) (Serves-none step old)
  rest_none old (byte ∷ pending) none = absurd (omega arith)

  pub ReadsOn-start : (left : Option (List ℕ)) (old : Moment M) (pending : List ℕ) → pending ≡ [] → ReadsOn ends step left left old old 0 pending
  ReadsOn-start left old pending none = record {
    taken = [];
    consumed = Consumes-none left;
    length_is = refl;
    stands = subst (λ (left : List ℕ). Stands ends step old [] old left) (sym none) (Stands-start ends step old []);
    clean = subst HasNoNewline (sym none) (All-nil (λ byte. is_newline byte ≡ false));
  }

  -- what was read before this may be, and has no line that ends the script
  last_read : (left left' handed : Option (List ℕ)) (old now : Moment M) (count : ℕ) (pending bytes : List ℕ) (r : ReadsOn ends step left left' old now count pending) → count ≤ script_limit → length bytes ≤ piece_length → IfSome handed (λ last. last ≡ bytes) → IsLastRead ends handed r.taken (r.taken ++ bytes)
  last_read left left' handed old now count pending bytes r le short out = record {
    piece = bytes;
    parts = refl;
    handed = out;
    one_read = short;
    within = let counted = r.length_is in omega arith;
    unended = ending_taken ends r.taken r.stands.done pending r.stands.reads r.clean;
  }

  -- nothing was read after what was taken so far
  read_nothing : (result : Result (Unit {0}) Stop) (left left' left'' handed : Option (List ℕ)) (old now new : Moment M) (count : ℕ) (pending : List ℕ) (r : ReadsOn ends step left left' old now count pending) → count ≤ script_limit → Consumes left' left'' [] → IfSome handed (λ last. last ≡ []) → ServesTaken ends step result left'' r.taken r.taken old new → ServesScript ends step result left left'' handed old new
  read_nothing result left left' left'' handed old now new count pending r le consumed out h = record {
    front = r.taken;
    taken = r.taken;
    consumed = subst (λ (taken : List ℕ). Consumes left left'' taken) (append-nil r.taken) (Consumes-append left left' left'' r.taken [] r.consumed consumed);
    last = subst (λ (taken : List ℕ). IsLastRead ends handed r.taken taken) (append-nil r.taken) (last_read left left' handed old now count pending [] r le (omega arith) out);
    served = h;
  }

  -- these bytes were read after what was taken so far
  read_bytes : (result : Result (Unit {0}) Stop) (left left' left'' handed : Option (List ℕ)) (old now new : Moment M) (count : ℕ) (pending bytes : List ℕ) (r : ReadsOn ends step left left' old now count pending) → count ≤ script_limit → length bytes ≤ piece_length → Consumes left' left'' bytes → IfSome handed (λ last. last ≡ bytes) → ServesTaken ends step result left'' r.taken (r.taken ++ bytes) old new → ServesScript ends step result left left'' handed old new
  read_bytes result left left' left'' handed old now new count pending bytes r le short consumed out h = record {
    front = r.taken;
    taken = r.taken ++ bytes;
    consumed = Consumes-append left left' left'' r.taken bytes r.consumed consumed;
    last = last_read left left' handed old now count pending bytes r le short out;
    served = h;
  }

  -- the source has failed
  pub read_failed : (left left' left'' handed : Option (List ℕ)) (old now : Moment M) (count : ℕ) (pending : List ℕ) → ReadsOn ends step left left' old now count pending → count ≤ script_limit → Keeps left' left'' → IfSome handed (λ last. last ≡ []) → ServesScript ends step (Err stop.Source) left left'' handed old now
  read_failed left left' left'' handed old now count pending r le keeps out =
      read_nothing (Err stop.Source) left left' left'' handed old now now count pending r le (Consumes-kept left' left'' keeps) out (
        subst (λ requests. Serves step old requests now) (sym (whole_taken ends r.taken r.stands.done pending r.stands.reads r.clean)) r.stands.serves,
        (let counted = r.length_is in omega arith),
        ending_taken ends r.taken r.stands.done pending r.stands.reads r.clean,
      )

  answered : (old new : Moment M) (done : List Request) (h : Serves step old done new) → length done ≤ length h.replies
  answered old new done h = let each = Transcript-length step old.state new.state done h.replies h.run in omega arith

  -- memory is wanting for the last line
  abbrev rest_unseen : (taken pending : List ℕ) (old now new : Moment M) → Stands ends step old taken now pending → length taken ≤ script_limit → Wants step now (script_requests ends pending) new → 0 < length pending → StopsShort ends step old (take script_limit taken) (script_requests ends taken) new
  rest_unseen taken pending old now new s fits wants some = record {
    seen = s.reads.seen;
    behind = pending;
    parts = take_all script_limit taken fits ∙ sym s.reads.parts;
    some = some;
    unended = seen_unended ends taken s.done pending s.reads;
    done = s.done;
    asks_seen = seen_asks ends taken s.done pending s.reads;
    mid = now;
    serves = s.serves;
    rest = script_requests ends pending;
    asks = all_taken ends taken s.done pending s.reads;
    wants = wants;
  }

  rest_served : (result : Result (Unit {0}) Stop) (left' : Option (List ℕ)) (taken pending : List ℕ) (old now new : Moment M) → Stands ends step old taken now pending → HasNoNewline pending → length taken ≤ script_limit → IsAtEnd left' → ServesRest ends step result now pending new → ServesTaken ends step result left' taken taken old new
  rest_served (Ok done) left' taken pending old now new s clean fits end h = (
    subst (λ requests. Serves step old requests new) (sym (all_taken ends taken s.done pending s.reads)) (Serves-append step old now new s.done (script_requests ends pending) s.serves h),
    inl end,
    inl fits,
  )
  rest_served (Err stop.Sink) left' taken pending old now new s clean fits end h = let cut = Serves-Breaks-behind step old now new s.done (script_requests ends pending) s.serves h in (
    script_requests ends taken,
    s.done ++ script_requests ends pending,
    [],
    inr (end, fits, refl),
    all_taken ends taken s.done pending s.reads ∙ sym (nil_right _),
    (cut.0, prompt ends taken s.done pending cut.0.replies s.reads clean cut.1),
  )
  rest_served (Err stop.Memory) left' taken pending old now new s clean fits end h = (
    script_requests ends taken,
    inr (end, fits, refl),
    (rest_unseen taken pending old now new s fits h.0 h.1, prompt ends taken s.done pending s.serves.replies s.reads clean (answered old now s.done s.serves)),
  )
  rest_served (Err stop.Source) left' taken pending old now new s clean fits end h = absurd h
  rest_served (Err stop.TooLong) left' taken pending old now new s clean fits end h = absurd h

  -- the script is at its end
  pub read_at_end : (result : Result (Unit {0}) Stop) (left left' left'' handed : Option (List ℕ)) (old now new : Moment M) (count : ℕ) (pending : List ℕ) → ReadsOn ends step left left' old now count pending → count ≤ script_limit → Consumes left' left'' [] → IsAtEnd left'' → IfSome handed (λ last. last ≡ []) → ServesRest ends step result now pending new → ServesScript ends step result left left'' handed old new
  read_at_end result left left' left'' handed old now new count pending r le consumed end out h =
      read_nothing result left left' left'' handed old now new count pending r le consumed out
      (rest_served result left'' r.taken pending old now new r.stands r.clean (let counted = r.length_is in omega arith) end h)

  -- the script goes on
  pub ReadsOn-more : (left left' left'' : Option (List ℕ)) (old now new : Moment M) (count n : ℕ) (pending piece pending' : List ℕ) → ReadsOn ends step left left' old now count pending → Consumes left' left'' piece → length piece ≡ n → ServesPiece ends step (Ok Open) now (pending ++ piece) new pending' → ReadsOn ends step left left'' old new (count + n) pending'
  ReadsOn-more left left' left'' old now new count n pending piece pending' r consumed long h = record {
    taken = r.taken ++ piece;
    consumed = Consumes-append left left' left'' r.taken piece r.consumed consumed;
    length_is = let counted = r.length_is in omega (arith, length-append r.taken piece);
    stands = record {
      done = r.stands.done ++ h.0;
      serves = Serves-append step old now new r.stands.done h.0 r.stands.serves h.1;
      reads = Reads-append ends (r.taken ++ piece) (pending ++ piece) pending' r.stands.done h.0 (Reads-more ends r.taken r.stands.done pending piece r.stands.reads) h.2;
    };
    clean = h.3;
  }

  -- what was taken, cut where the piece that was looked at ends
  cut : (front bytes piece others : List ℕ) → bytes ≡ piece ++ others → front ++ bytes ≡ (front ++ piece) ++ others
  cut front bytes piece others parts = ap (λ xs. front ++ xs) parts ∙ sym (append_assoc front piece others)

  ended_served : (left' : Option (List ℕ)) (front pending bytes piece others pending' : List ℕ) (old now new : Moment M) → Stands ends step old front now pending → bytes ≡ piece ++ others → length (front ++ piece) ≤ script_limit → ServesPiece ends step (Ok Ended) now (pending ++ piece) new pending' → ServesTaken ends step (Ok tt) left' front (front ++ bytes) old new
  ended_served left' front pending bytes piece others pending' old now new s parts fits h =
      let e = cut front bytes piece others parts in
      let q = Reads-Finishes ends (front ++ piece) (pending ++ piece) s.done h.0 (Reads-more ends front s.done pending piece s.reads) h.2 in (
        subst (λ requests. Serves step old requests new) (sym (ap (script_requests ends) e ∙ q.all others)) (Serves-append step old now new s.done h.0 s.serves h.1),
        inr (ap (has_ending ends) e ∙ q.ending others),
        inr (ap (λ xs. has_ending ends (take script_limit xs)) e ∙ ap (has_ending ends) (front_then script_limit (front ++ piece) others fits) ∙ q.ending _),
      )

  -- a line that ends the script has come
  pub read_ended : (left left' left'' handed : Option (List ℕ)) (old now new : Moment M) (count : ℕ) (pending bytes piece others pending' : List ℕ) → ReadsOn ends step left left' old now count pending → count ≤ script_limit → length bytes ≤ piece_length → Consumes left' left'' bytes → IfSome handed (λ last. last ≡ bytes) → bytes ≡ piece ++ others → count + length piece ≤ script_limit → ServesPiece ends step (Ok Ended) now (pending ++ piece) new pending' → ServesScript ends step (Ok tt) left left'' handed old new
  read_ended left left' left'' handed old now new count pending bytes piece others pending' r le short consumed out parts room h =
      read_bytes (Ok tt) left left' left'' handed old now new count pending bytes r le short consumed out
      (ended_served left'' r.taken pending bytes piece others pending' old now new r.stands parts (let counted = r.length_is in omega (arith, length-append r.taken piece)) h)

  overlong_served : (left' : Option (List ℕ)) (front pending bytes piece others pending' : List ℕ) (old now new : Moment M) → Stands ends step old front now pending → bytes ≡ piece ++ others → length (front ++ piece) ≡ script_limit → 0 < length others → ServesPiece ends step (Ok Open) now (pending ++ piece) new pending' → ServesTaken ends step (Err stop.TooLong) left' front (front ++ bytes) old new
  overlong_served left' front pending bytes piece others pending' old now new s parts full some h =
      let e = cut front bytes piece others parts in
      let next = Reads-append ends (front ++ piece) (pending ++ piece) pending' s.done h.0 (Reads-more ends front s.done pending piece s.reads) h.2 in
      let kept = ap (take script_limit) e ∙ front_is script_limit (front ++ piece) others full in
      let long = ap length e in (
        subst (λ requests. Serves step old requests new) (sym (ap (whole_requests ends) kept ∙ whole_taken ends (front ++ piece) (s.done ++ h.0) pending' next h.3)) (Serves-append step old now new s.done h.0 s.serves h.1),
        (
          omega (arith, length-append (front ++ piece) others),
          ap (has_ending ends) kept ∙ ending_taken ends (front ++ piece) (s.done ++ h.0) pending' next h.3,
        ),
      )

  -- a byte too many has come
  pub read_overlong : (left left' left'' handed : Option (List ℕ)) (old now new : Moment M) (count : ℕ) (pending bytes piece others pending' : List ℕ) → ReadsOn ends step left left' old now count pending → count ≤ script_limit → length bytes ≤ piece_length → Consumes left' left'' bytes → IfSome handed (λ last. last ≡ bytes) → bytes ≡ piece ++ others → count + length piece ≡ script_limit → 0 < length others → ServesPiece ends step (Ok Open) now (pending ++ piece) new pending' → ServesScript ends step (Err stop.TooLong) left left'' handed old new
  read_overlong left left' left'' handed old now new count pending bytes piece others pending' r le short consumed out parts full some h =
      read_bytes (Err stop.TooLong) left left' left'' handed old now new count pending bytes r le short consumed out
      (overlong_served left'' r.taken pending bytes piece others pending' old now new r.stands parts (let counted = r.length_is in omega (arith, length-append r.taken piece)) some h)

  -- what the whole lines among the bytes that may be ask begins with what was answered
  first_asked : (front pending bytes piece others : List ℕ) (done next : List Request) → Reads ends front done pending → Begins ends (pending ++ piece) next → bytes ≡ piece ++ others → length (front ++ piece) ≤ script_limit → (rest : List Request) × (whole_requests ends (take script_limit (front ++ bytes)) ≡ (done ++ next) ++ rest)
  first_asked front pending bytes piece others done next reads begins parts fits =
      let all = Reads-Begins ends (front ++ piece) (pending ++ piece) done next (Reads-more ends front done pending piece reads) begins in
      let found = all.whole (take (script_limit - length (front ++ piece)) others) in
      (found.0, ap (λ xs. whole_requests ends (take script_limit xs)) (cut front bytes piece others parts) ∙ ap (whole_requests ends) (front_then script_limit (front ++ piece) others fits) ∙ found.1)

  -- memory is wanting in the midst of what was looked at, behind what was answered of the front
  abbrev Halts-behind : (old now new : Moment M) (front pending piece : List ℕ) → Stands ends step old front now pending → Halts ends step now (pending ++ piece) new → Halts ends step old (front ++ piece) new
  Halts-behind old now new front pending piece s h = record {
    done = s.done ++ h.done;
    behind = h.behind;
    reads = Reads-append ends (front ++ piece) (pending ++ piece) h.behind s.done h.done (Reads-more ends front s.done pending piece s.reads) h.reads;
    some = h.some;
    mid = h.mid;
    serves = Serves-append step old now h.mid s.done h.done s.serves h.serves;
    next = h.next;
    begins = h.begins;
    wants = h.wants;
  }

  -- so it is in all that may be answered, which has more behind
  abbrev more_unseen : (old new : Moment M) (bytes looked more : List ℕ) → bytes ≡ looked ++ more → (h : Halts ends step old looked new) → (others : List Request) → whole_requests ends (looked ++ more) ≡ (h.done ++ h.next) ++ others → StopsShort ends step old bytes (whole_requests ends bytes) new
  more_unseen old new bytes looked more parts h others asked = record {
    seen = h.reads.seen;
    behind = h.behind ++ more;
    parts = parts ∙ ap (λ xs. xs ++ more) (sym h.reads.parts) ∙ append_assoc h.reads.seen h.behind more;
    some = some_more h.behind more h.some;
    unended = seen_unended ends looked h.done h.behind h.reads;
    done = h.done;
    asks_seen = seen_asks ends looked h.done h.behind h.reads;
    mid = h.mid;
    serves = h.serves;
    rest = h.next ++ others;
    asks = ap (whole_requests ends) parts ∙ asked ∙ append_assoc h.done h.next others;
    wants = Wants-more step h.mid new h.next others h.wants;
  }

  stopped_served : (fault : Stop) (left' : Option (List ℕ)) (front pending bytes piece others pending' : List ℕ) (old now new : Moment M) → Stands ends step old front now pending → HasNoNewline pending → bytes ≡ piece ++ others → length (front ++ piece) ≤ script_limit → ServesPiece ends step (Err fault) now (pending ++ piece) new pending' → ServesTaken ends step (Err fault) left' front (front ++ bytes) old new
  stopped_served stop.Sink left' front pending bytes piece others pending' old now new s clean parts fits h =
      let found = first_asked front pending bytes piece others s.done h.0 s.reads h.2 parts fits in
      let cut = Serves-Breaks-behind step old now new s.done h.0 s.serves h.1 in
      (whole_requests ends (take script_limit (front ++ bytes)), s.done ++ h.0, found.0, inl refl, found.1, (cut.0, prompt ends front s.done pending cut.0.replies s.reads clean cut.1))
  stopped_served stop.Memory left' front pending bytes piece others pending' old now new s clean parts fits h =
      let all = Halts-behind old now new front pending piece s h in
      let more = take (script_limit - length (front ++ piece)) others in
      let kept : take script_limit (front ++ bytes) ≡ (front ++ piece) ++ more = ap (take script_limit) (cut front bytes piece others parts) ∙ front_then script_limit (front ++ piece) others fits in
      let found = (Reads-Begins ends (front ++ piece) all.behind all.done all.next all.reads all.begins).whole more in
      let each = answered old all.mid (s.done ++ h.done) all.serves in
      let whole : length s.done ≤ length all.serves.replies = omega (arith, each, length-append s.done h.done) in (
        whole_requests ends (take script_limit (front ++ bytes)),
        inl refl,
        (more_unseen old new (take script_limit (front ++ bytes)) (front ++ piece) more kept all found.0 found.1, prompt ends front s.done pending all.serves.replies s.reads clean whole),
      )
  stopped_served stop.Source left' front pending bytes piece others pending' old now new s clean parts fits h = absurd h
  stopped_served stop.TooLong left' front pending bytes piece others pending' old now new s clean parts fits h = absurd h

  -- a line was cut short
  pub read_stopped : (fault : Stop) (left left' left'' handed : Option (List ℕ)) (old now new : Moment M) (count : ℕ) (pending bytes piece others pending' : List ℕ) → ReadsOn ends step left left' old now count pending → count ≤ script_limit → length bytes ≤ piece_length → Consumes left' left'' bytes → IfSome handed (λ last. last ≡ bytes) → bytes ≡ piece ++ others → count + length piece ≤ script_limit → ServesPiece ends step (Err fault) now (pending ++ piece) new pending' → ServesScript ends step (Err fault) left left'' handed old new
  read_stopped fault left left' left'' handed old now new count pending bytes piece others pending' r le short consumed out parts room h =
      read_bytes (Err fault) left left' left'' handed old now new count pending bytes r le short consumed out
      (stopped_served fault left'' r.taken pending bytes piece others pending' old now new r.stands r.clean parts (let counted = r.length_is in omega (arith, length-append r.taken piece)) h)
