-- Sessions one after another.
use Rattle.std.proofs.Common.{◌≡◌, ◌≤◌, ℕ, length, length-append, List, [], ◌∷◌, ◌++◌, refl, sym, ◌∙◌, ap, append_assoc, append-nil, arith, Bool, true, false, ◌||◌, subst, inl, inr}
use Rattle.std.specs.List.{list_any, concat}
use Rattle.std.specs.Io.KnownBytes.{Appends}
use Rattle.std.proofs.lemmas.List.Folds.{concat-append}
use Rattle.script_session.specs.Output.{WritesFront}
use Rattle.script_session.specs.Reply.{wants_memory, is_error}
use Rattle.script_session.specs.Request.{Command, Request, Overlong, overlong_text, RequestStep}
use Rattle.script_session.specs.private.Session.{Moment, Serves, Breaks, Wants}
use Rattle.script_session.specs.Run.{LosesReply}
use Rattle.script_session.specs.Stand.{Stand, Transcript}
use Rattle.script_session.proofs.OutputLemmas.{Appends-none, Appends-append}

pub Transcript-append : {S Q R : Type 0} (step : S → Q → R → S → Type 0) (a b c : S) (qs us : List Q) (rs vs : List R) → Transcript step a qs rs b → Transcript step b us vs c → Transcript step a (qs ++ us) (rs ++ vs) c
Transcript-append step a b c [] us [] vs h k = subst (λ s. Transcript step s us vs c) h k
Transcript-append step a b c [] us (r ∷ rs) vs h k = absurd h
Transcript-append step a b c (q ∷ qs) us [] vs h k = absurd h
Transcript-append step a b c (q ∷ qs) us (r ∷ rs) vs h k = (h.0, h.1, Transcript-append step h.0 b c qs us rs vs h.2 k)

-- each request has its reply
pub Transcript-length : {S Q R : Type 0} (step : S → Q → R → S → Type 0) (old new : S) (qs : List Q) (rs : List R) → Transcript step old qs rs new → length qs ≡ length rs
Transcript-length step old new [] [] h = refl
Transcript-length step old new [] (r ∷ rs) h = absurd h
Transcript-length step old new (q ∷ qs) [] h = absurd h
Transcript-length step old new (q ∷ qs) (r ∷ rs) h = let more = Transcript-length step h.0 new qs rs h.2 in omega arith

-- what holds of the next requests holds of them with more behind
pub LosesReply-more : {S : Type 0} (step : S → Request → List ℕ → S → Type 0) (old new : S) (requests more : List Request) → LosesReply step old requests new → LosesReply step old (requests ++ more) new
LosesReply-more step old new requests more (inl same) = inl same
LosesReply-more step old new requests more (inr h) = inr (h.0, h.1 ++ more, h.2, ap (λ qs. qs ++ more) h.3, h.4)

or_assoc : (a b c : Bool) → (a || b) || c ≡ a || (b || c)
or_assoc true b c = refl
or_assoc false b c = refl

or_false : (b : Bool) → b ≡ b || false
or_false true = refl
or_false false = refl

or_true : (b : Bool) → b || true ≡ true
or_true true = refl
or_true false = refl

any_both : (p : List ℕ → Bool) (rs vs : List (List ℕ)) → list_any p rs || list_any p vs ≡ list_any p (rs ++ vs)
any_both p [] vs = refl
any_both p (r ∷ rs) vs = or_assoc (p r) (list_any p rs) (list_any p vs) ∙ ap (λ b. p r || b) (any_both p rs vs)

any-append : (p : List ℕ → Bool) (b : Bool) (rs vs : List (List ℕ)) → (b || list_any p rs) || list_any p vs ≡ b || list_any p (rs ++ vs)
any-append p b rs vs = or_assoc b (list_any p rs) (list_any p vs) ∙ ap (λ a. b || a) (any_both p rs vs)

-- replies, more of them, and then bytes
whole_behind : (rs vs : List (List ℕ)) (bytes : List ℕ) → concat (rs ++ vs) ++ bytes ≡ concat rs ++ (concat vs ++ bytes)
whole_behind rs vs bytes = ap (λ (front : List ℕ). front ++ bytes) (concat-append rs vs) ∙ append_assoc (concat rs) (concat vs) bytes

module _ {M : Type 0} (step : Stand M → Request → List ℕ → Stand M → Type 0) where
  pub Serves-none : (old : Moment M) → Serves step old [] old
  Serves-none old = record { replies = []; run = refl; output = Appends-none old.written; wanted = or_false old.wanted; refused = or_false old.refused }

  pub Serves-append : (a b c : Moment M) (qs us : List Request) → Serves step a qs b → Serves step b us c → Serves step a (qs ++ us) c
  Serves-append a b c qs us h k = record {
    replies = h.replies ++ k.replies;
    run = Transcript-append step a.state b.state c.state qs us h.replies k.replies h.run k.run;
    output = subst (λ bytes. Appends a.written c.written bytes) (sym (concat-append h.replies k.replies)) (Appends-append a.written b.written c.written (concat h.replies) (concat k.replies) h.output k.output);
    wanted = k.wanted ∙ ap (λ w. w || list_any wants_memory k.replies) h.wanted ∙ any-append wants_memory a.wanted h.replies k.replies;
    refused = k.refused ∙ ap (λ w. w || list_any is_error k.replies) h.refused ∙ any-append is_error a.refused h.replies k.replies;
  }

  -- and every request before those has its reply, whole
  pub Serves-Breaks-behind : (a b c : Moment M) (qs us : List Request) → Serves step a qs b → Breaks step b us c → (cut : Breaks step a (qs ++ us) c) × (length qs ≤ length cut.replies)
  Serves-Breaks-behind a b c qs us h k = (
    record {
      replies = h.replies ++ k.replies;
      broken = k.broken;
      run = subst (λ rs. Transcript step a.state (qs ++ us) rs c.state) (sym (append_assoc h.replies k.replies (k.broken ∷ []))) (Transcript-append step a.state b.state c.state qs us h.replies (k.replies ++ k.broken ∷ []) h.run k.run);
      bytes = k.bytes;
      unwritten = k.unwritten;
      front = k.front;
      some = k.some;
      output = subst (λ bytes. Appends a.written c.written bytes) (sym (whole_behind h.replies k.replies k.bytes)) (Appends-append a.written b.written c.written (concat h.replies) (concat k.replies ++ k.bytes) h.output k.output);
    },
    (let each = Transcript-length step a.state b.state qs h.replies h.run in omega (arith, length-append h.replies k.replies)),
  )

  pub Serves-Breaks : (a b c : Moment M) (qs us : List Request) → Serves step a qs b → Breaks step b us c → Breaks step a (qs ++ us) c
  Serves-Breaks a b c qs us h k = (Serves-Breaks-behind a b c qs us h k).0

  -- one request, whose reply was written
  pub Serves-one : (old new : Moment M) (request : Request) (reply : List ℕ) → step old.state request reply new.state → Appends old.written new.written reply → new.wanted ≡ (old.wanted || wants_memory reply) → new.refused ≡ (old.refused || is_error reply) → Serves step old (request ∷ []) new
  Serves-one old new request reply answered output wanted refused = record {
    replies = reply ∷ [];
    run = (new.state, answered, refl);
    output = subst (λ bytes. Appends old.written new.written bytes) (sym (append-nil reply)) output;
    wanted = wanted ∙ ap (λ b. old.wanted || b) (or_false (wants_memory reply));
    refused = refused ∙ ap (λ b. old.refused || b) (or_false (is_error reply));
  }

  -- one whose reply was broken off
  pub Breaks-one : (old new : Moment M) (request : Request) (reply : List ℕ) → step old.state request reply new.state → WritesFront old.written new.written reply → Breaks step old (request ∷ []) new
  Breaks-one old new request reply answered sent = record {
    replies = [];
    broken = reply;
    run = (new.state, answered, refl);
    bytes = sent.0;
    unwritten = sent.1;
    front = sent.2;
    some = sent.4;
    output = sent.3;
  }

  -- one whose reply couldn't be made
  pub Wants-one : (old new : Moment M) (request : Request) → (reply : List ℕ) × step old.state request reply new.state → new.written ≡ old.written → Wants step old (request ∷ []) new
  Wants-one old new request answered same = record { written = same; lost = inr (request, [], answered.0, refl, answered.1) }

  pub Wants-more : (old new : Moment M) (requests more : List Request) → Wants step old requests new → Wants step old (requests ++ more) new
  Wants-more old new requests more h = record { written = h.written; lost = LosesReply-more step old.state new.state requests more h.lost }

  -- nothing was asked
  pub Wants-none : (old : Moment M) (requests : List Request) → Wants step old requests old
  Wants-none old requests = record { written = refl; lost = inl refl }

-- a line that is too long
module _ {M : Type 0} (step : Stand M → Command → List ℕ → Stand M → Type 0) where
  pub Serves-overlong : (old new : Moment M) → new.state ≡ old.state → Appends old.written new.written overlong_text → new.wanted ≡ old.wanted → new.refused ≡ true → Serves (RequestStep step) old (Overlong ∷ []) new
  Serves-overlong old new same output wanted refused = Serves-one (RequestStep step) old new Overlong overlong_text (same, refl) output (wanted ∙ or_false old.wanted) (refused ∙ sym (or_true old.refused))

  pub Breaks-overlong : (old new : Moment M) → new.state ≡ old.state → WritesFront old.written new.written overlong_text → Breaks (RequestStep step) old (Overlong ∷ []) new
  Breaks-overlong old new same sent = Breaks-one (RequestStep step) old new Overlong overlong_text (same, refl) sent
