-- A piece of a script, line by line.
use Rattle.std.proofs.Common.{◌≡◌, ◌<◌, ℕ, List, [], ◌∷◌, ◌++◌, length, length-append, refl, sym, ◌∙◌, ap, append_assoc, subst, Bool, true, false, arith}
use Rattle.std.specs.Prelude.{if◌then◌else◌, Result, Ok, Err}
use Rattle.text_lines.specs.Lines.{Line, ended_line, HasNoNewline, text_of}
use Rattle.script_session.specs.Request.{Command, Request, Overlong}
use Rattle.script_session.specs.Script.{is_long_line, text_requests, is_end_text, is_end, line_requests}
use Rattle.script_session.specs.private.Session.{Moment, Serves, Breaks, Wants, Reads, ServesOne, ServesAll, ServesLine, ServesPiece}
use Rattle.script_session.specs.Stand.{Stand}
use Rattle.script_session.specs.declared.session.Flow.{Flow}
use Rattle.script_session.specs.declared.session.Flow.TheVariants.{Open, Ended}
use Rattle.script_session.specs.declared.session.Stop.{Stop}
use Rattle.script_session.specs.declared.session.Stop.TheVariants as stop
use Rattle.script_session.proofs.SessionLemmas.{Serves-none, Serves-append, Serves-Breaks, Wants-none}
use Rattle.script_session.proofs.ScriptLemmas.{short-requests, short-end, long-requests, long-end, Reads-start, Reads-append, Reads-Finishes, Reads-Begins, Reads-line, Finishes-line, Begins-line, Begins-none, nil_right}

-- what the bytes up to left ask is answered
pub record Stands {M : Type 0} (ends : Command → Bool) (step : Stand M → Request → List ℕ → Stand M → Type 0) (old : Moment M) (bytes : List ℕ) (now : Moment M) (left : List ℕ) : Type 0 where
  pub done : List Request
  pub serves : Serves step old done now
  pub reads : Reads ends bytes done left

module _ {M : Type 0} (ends : Command → Bool) (step : Stand M → Request → List ℕ → Stand M → Type 0) where
  -- a request that was cut short is its line cut short
  pub all_failed : (fault : Stop) (old new : Moment M) (requests : List Request) (last : Bool) (request : Request) → requests ≡ request ∷ [] → ServesOne step (Err fault) old request new → ServesAll step (Err fault) old requests last new
  all_failed stop.Sink old new requests last request asked h = subst (λ requests. Breaks step old requests new) (sym asked) h
  all_failed stop.Memory old new requests last request asked h = subst (λ requests. Wants step old requests new) (sym asked) h
  all_failed stop.Source old new requests last request asked h = h
  all_failed stop.TooLong old new requests last request asked h = h

  -- a line within its limit is its text
  pub short_line : (result : Result Flow Stop) (old new : Moment M) (line : Line) → is_long_line line ≡ false → ServesAll step result old (text_requests (text_of line)) (is_end_text ends (text_of line)) new → ServesLine ends step result old line new
  short_line result old new line short h =
      subst (λ (requests : List Request). ServesAll step result old requests (is_end ends line) new) (sym (short-requests line short))
      (subst (λ (last : Bool). ServesAll step result old (text_requests (text_of line)) last new) (sym (short-end ends line short)) h)

  -- the script goes on after a line that is too long
  pub long_line : (old new : Moment M) (line : Line) → is_long_line line ≡ true → Serves step old (Overlong ∷ []) new → ServesLine ends step (Ok Open) old line new
  long_line old new line long h =
      (subst (λ (requests : List Request). Serves step old requests new) (sym (long-requests line long)) h, ap (λ (b : Bool). if b then Ended else Open) (sym (long-end ends line long)))

  pub long_broken : (old new : Moment M) (line : Line) → is_long_line line ≡ true → Breaks step old (Overlong ∷ []) new → ServesLine ends step (Err stop.Sink) old line new
  long_broken old new line long h = subst (λ (requests : List Request). Breaks step old requests new) (sym (long-requests line long)) h

  pub Stands-start : (old : Moment M) (bytes : List ℕ) → Stands ends step old bytes old bytes
  Stands-start old bytes = record { done = []; serves = Serves-none step old; reads = Reads-start ends bytes }

  flow_open : (line : Line) → Open ≡ (if is_end ends line then Ended else Open) → is_end ends line ≡ false
  flow_open line h =
      elim (is_end ends line) as (λ b. Open ≡ (if b then Ended else Open) → b ≡ false) [ true ↦ λ e. absurd (cc) | false ↦ λ _. refl ] h

  flow_ended : (line : Line) → Ended ≡ (if is_end ends line then Ended else Open) → is_end ends line ≡ true
  flow_ended line h =
      elim (is_end ends line) as (λ b. Ended ≡ (if b then Ended else Open) → b ≡ true) [ true ↦ λ _. refl | false ↦ λ e. absurd (cc) ] h

  pub Stands-line : (old now new : Moment M) (bytes line rest : List ℕ) → HasNoNewline line → Stands ends step old bytes now (line ++ 10 ∷ rest) → ServesLine ends step (Ok Open) now (ended_line line) new → Stands ends step old bytes new rest
  Stands-line old now new bytes line rest clean s h = record {
    done = s.done ++ line_requests (ended_line line);
    serves = Serves-append step old now new s.done (line_requests (ended_line line)) s.serves h.0;
    reads = Reads-append ends bytes (line ++ 10 ∷ rest) rest s.done (line_requests (ended_line line)) s.reads (Reads-line ends line rest clean (flow_open (ended_line line) h.1));
  }

  pub piece_ended : (old now new : Moment M) (bytes line rest pending : List ℕ) → HasNoNewline line → Stands ends step old bytes now (line ++ 10 ∷ rest) → ServesLine ends step (Ok Ended) now (ended_line line) new → ServesPiece ends step (Ok Ended) old bytes new pending
  piece_ended old now new bytes line rest pending clean s h = (
    s.done ++ line_requests (ended_line line),
    Serves-append step old now new s.done (line_requests (ended_line line)) s.serves h.0,
    Reads-Finishes ends bytes (line ++ 10 ∷ rest) s.done (line_requests (ended_line line)) s.reads (Finishes-line ends line rest clean (flow_ended (ended_line line) h.1)),
  )

  pub piece_failed : (fault : Stop) (old now new : Moment M) (bytes line rest pending : List ℕ) → HasNoNewline line → Stands ends step old bytes now (line ++ 10 ∷ rest) → ServesLine ends step (Err fault) now (ended_line line) new → ServesPiece ends step (Err fault) old bytes new pending
  piece_failed stop.Sink old now new bytes line rest pending clean s h =
      let requests = line_requests (ended_line line) in (
        s.done ++ requests,
        Serves-Breaks step old now new s.done requests s.serves h,
        Reads-Begins ends bytes (line ++ 10 ∷ rest) s.done requests s.reads (Begins-line ends line rest requests [] clean (sym (nil_right requests))),
      )
  piece_failed stop.Memory old now new bytes line rest pending clean s h =
      let requests = line_requests (ended_line line) in
      record {
        done = s.done;
        behind = line ++ 10 ∷ rest;
        reads = s.reads;
        some = omega (arith, length-append line (10 ∷ rest));
        mid = now;
        serves = s.serves;
        next = requests;
        begins = Begins-line ends line rest requests [] clean (sym (nil_right requests));
        wants = h;
      }
  piece_failed stop.Source old now new bytes line rest pending clean s h = h
  piece_failed stop.TooLong old now new bytes line rest pending clean s h = h

  -- memory is wanting for what follows the last line
  pub piece_wanting : (old now : Moment M) (bytes left pending : List ℕ) → Stands ends step old bytes now left → 0 < length left → ServesPiece ends step (Err stop.Memory) old bytes now pending
  piece_wanting old now bytes left pending s some = record { done = s.done; behind = left; reads = s.reads; some = some; mid = now; serves = s.serves; next = []; begins = Begins-none ends left; wants = Wants-none step now [] }

  pub piece_open : (old now : Moment M) (bytes pending : List ℕ) → HasNoNewline pending → Stands ends step old bytes now pending → ServesPiece ends step (Ok Open) old bytes now pending
  piece_open old now bytes pending clean s = (s.done, s.serves, s.reads, clean)

  -- what is kept of a line and what the piece has of it
  pub Stands-joined : (old now : Moment M) (bytes pending line more rest : List ℕ) → rest ≡ line ++ 10 ∷ more → Stands ends step old bytes now (pending ++ rest) → Stands ends step old bytes now ((pending ++ line) ++ 10 ∷ more)
  Stands-joined old now bytes pending line more rest parts s =
      subst (λ (left : List ℕ). Stands ends step old bytes now left) (ap (λ xs. pending ++ xs) parts ∙ sym (append_assoc pending line (10 ∷ more))) s

  -- the line that the session is given is a whole line of the script
  pub served_line : (a b : Result Flow Stop) (old new : Moment M) (bytes whole : List ℕ) → a ≡ b → bytes ≡ whole → ServesLine ends step a old (ended_line bytes) new → ServesLine ends step b old (ended_line whole) new
  served_line a b old new bytes whole same all h =
      subst (λ r. ServesLine ends step r old (ended_line whole) new) same (subst (λ (w : List ℕ). ServesLine ends step a old (ended_line w) new) all h)
