-- What a script asks, line by line.
use Rattle.std.proofs.Common.{◌≡◌, ℕ, ◌<◌, List, [], ◌∷◌, ◌++◌, length, refl, sym, ◌∙◌, ap, append_assoc, arith, Bool, true, false, not, ◌&&◌, ◌||◌, map, Bor}
use Rattle.std.specs.Prelude.{if◌then◌else◌, ◌==◌}
use Rattle.std.proofs.lemmas.Bool.Decides.{nat_tests}
use Rattle.std.specs.List.{filter, list_any}
use Rattle.text_lines.specs.Lines.{Line, ended_line, HasNoNewline, text_of}
use Rattle.text_lines.specs.Words.{words_of}
use Rattle.text_lines.proofs.LineLemmas.{lines-ended, lines-nothing, lines-last}
use Rattle.script_session.specs.Request.{Command, Request, Overlong, Words}
use Rattle.script_session.specs.Script.{is_comment, is_silent, is_long_line, text_requests, is_end_text, whole_lines, requests, line_requests, is_end, script_requests, whole_requests, has_ending}
use Rattle.script_session.specs.private.Session.{Reads, Finishes, Begins}

whole_lines-line : (line rest : List ℕ) → HasNoNewline line → whole_lines (line ++ 10 ∷ rest) ≡ ended_line line ∷ whole_lines rest
unfolding whole_lines
whole_lines-line line rest none = ap (filter (λ (line : Line). line.ended)) (lines-ended line rest none)

-- a last line is no whole one
pub whole_lines-none : (line : List ℕ) → HasNoNewline line → whole_lines line ≡ []
unfolding whole_lines
whole_lines-none [] none = ap (filter (λ (line : Line). line.ended)) lines-nothing
whole_lines-none (byte ∷ line) none = ap (filter (λ (line : Line). line.ended)) (lines-last (byte ∷ line) none refl)

goes_on : (b : Bool) (x y : List Request) → b ≡ false → (if b then x else y) ≡ y
goes_on true x y h = absurd (cc)
goes_on false x y h = refl

is_over : (b : Bool) (x y : List Request) → b ≡ true → (if b then x else y) ≡ x
is_over true x y h = refl
is_over false x y h = absurd (cc)

pub nil_right : (cs : List Request) → cs ++ [] ≡ cs
nil_right [] = refl
nil_right (c ∷ cs) = ap (λ ds. c ∷ ds) (nil_right cs)

pub silent-requests : (text : List ℕ) → is_silent text ≡ true → text_requests text ≡ []
silent-requests text h = ap (λ (b : Bool). if b then [] else Words (words_of text) ∷ []) h

or_true : (b : Bool) → b || true ≡ true
or_true true = refl
or_true false = refl

some_left : (n : ℕ) → 0 < n → (n == 0) ≡ false
some_left n some = grind (arith, nat_tests)

-- a comment
pub comment-silent : (line : List ℕ) → is_comment line ≡ true → is_silent line ≡ true
comment-silent line h = ap (λ b. b || length (words_of line) == 0) h

-- a line whose words, seen as slices, are none
pub wordless-silent : (line : List ℕ) (words : List (Bor (List ℕ))) → map (λ word. word.now) words ≡ words_of line → length words ≡ 0 → is_silent line ≡ true
wordless-silent line [] same none = ap (λ (ws : List (List ℕ)). is_comment line || length ws == 0) (sym same) ∙ or_true (is_comment line)
wordless-silent line (word ∷ words) same none = absurd (omega arith)

-- a text that is neither
pub spoken : (line : List ℕ) (words : List (Bor (List ℕ))) → is_comment line ≡ false → map (λ word. word.now) words ≡ words_of line → 0 < length words → is_silent line ≡ false
spoken line [] plain same some = absurd (omega arith)
spoken line (word ∷ words) plain same some =
    ap (λ b. b || length (words_of line) == 0) plain
    ∙ ap (λ (ws : List (List ℕ)). length ws == 0) (sym same)
    ∙ some_left (length (map (λ (word : Bor (List ℕ)). word.now) (word ∷ words))) (omega arith)

-- is a command
pub spoken-requests : (line : List ℕ) (words : List (List ℕ)) → is_silent line ≡ false → words ≡ words_of line → text_requests line ≡ Words words ∷ []
spoken-requests line words speaks same = ap (λ (b : Bool). if b then [] else Words (words_of line) ∷ []) speaks ∙ ap (λ (ws : List (List ℕ)). Words ws ∷ []) (sym same)

-- a line within its limit asks what its text does
pub short-requests : (line : Line) → is_long_line line ≡ false → line_requests line ≡ text_requests (text_of line)
short-requests line h = ap (λ (b : Bool). if b then Overlong ∷ [] else text_requests (text_of line)) h

pub long-requests : (line : Line) → is_long_line line ≡ true → line_requests line ≡ Overlong ∷ []
long-requests line h = ap (λ (b : Bool). if b then Overlong ∷ [] else text_requests (text_of line)) h

module _ (ends : Command → Bool) where
  script-line : (line rest : List ℕ) → HasNoNewline line → script_requests ends (line ++ 10 ∷ rest) ≡ line_requests (ended_line line) ++ (if is_end ends (ended_line line) then [] else script_requests ends rest)
  unfolding script_requests requests
  script-line line rest none = ap (requests ends) (lines-ended line rest none)

  whole-line : (line rest : List ℕ) → HasNoNewline line → whole_requests ends (line ++ 10 ∷ rest) ≡ line_requests (ended_line line) ++ (if is_end ends (ended_line line) then [] else whole_requests ends rest)
  unfolding whole_requests requests
  whole-line line rest none = ap (requests ends) (whole_lines-line line rest none)

  ending-line : (line rest : List ℕ) → HasNoNewline line → has_ending ends (line ++ 10 ∷ rest) ≡ is_end ends (ended_line line) || has_ending ends rest
  unfolding has_ending
  ending-line line rest none = ap (list_any (is_end ends)) (whole_lines-line line rest none)

  pub Reads-start : (bytes : List ℕ) → Reads ends bytes [] bytes
  Reads-start bytes = record { seen = []; parts = refl; all = λ more. refl; whole = λ more. refl; ending = λ more. refl }

  -- what follows the lines, and more behind it
  onward : (bytes seen left more : List ℕ) → seen ++ left ≡ bytes → bytes ++ more ≡ seen ++ (left ++ more)
  onward bytes seen left more parts = ap (λ xs. xs ++ more) (sym parts) ∙ append_assoc seen left more

  pub reads-all : (bytes : List ℕ) (done : List Request) (left more : List ℕ) → Reads ends bytes done left → script_requests ends (bytes ++ more) ≡ done ++ script_requests ends (left ++ more)
  reads-all bytes done left more r = ap (script_requests ends) (onward bytes r.seen left more r.parts) ∙ r.all (left ++ more)

  pub reads-whole : (bytes : List ℕ) (done : List Request) (left more : List ℕ) → Reads ends bytes done left → whole_requests ends (bytes ++ more) ≡ done ++ whole_requests ends (left ++ more)
  reads-whole bytes done left more r = ap (whole_requests ends) (onward bytes r.seen left more r.parts) ∙ r.whole (left ++ more)

  pub reads-ending : (bytes : List ℕ) (done : List Request) (left more : List ℕ) → Reads ends bytes done left → has_ending ends (bytes ++ more) ≡ has_ending ends (left ++ more)
  reads-ending bytes done left more r = ap (has_ending ends) (onward bytes r.seen left more r.parts) ∙ r.ending (left ++ more)

  pub Reads-more : (bytes : List ℕ) (done : List Request) (left piece : List ℕ) → Reads ends bytes done left → Reads ends (bytes ++ piece) done (left ++ piece)
  Reads-more bytes done left piece r = record { seen = r.seen; parts = sym (onward bytes r.seen left piece r.parts); all = r.all; whole = r.whole; ending = r.ending }

  pub Reads-append : (a b c : List ℕ) (done next : List Request) → Reads ends a done b → Reads ends b next c → Reads ends a (done ++ next) c
  Reads-append a b c done next r s = record {
    seen = r.seen ++ s.seen;
    parts = append_assoc r.seen s.seen c ∙ ap (λ xs. r.seen ++ xs) s.parts ∙ r.parts;
    all = λ more. ap (script_requests ends) (append_assoc r.seen s.seen more) ∙ r.all (s.seen ++ more) ∙ ap (λ cs. done ++ cs) (s.all more) ∙ sym (append_assoc done next _);
    whole = λ more. ap (whole_requests ends) (append_assoc r.seen s.seen more) ∙ r.whole (s.seen ++ more) ∙ ap (λ cs. done ++ cs) (s.whole more) ∙ sym (append_assoc done next _);
    ending = λ more. ap (has_ending ends) (append_assoc r.seen s.seen more) ∙ r.ending (s.seen ++ more) ∙ s.ending more;
  }

  pub Reads-Finishes : (a b : List ℕ) (done next : List Request) → Reads ends a done b → Finishes ends b next → Finishes ends a (done ++ next)
  Reads-Finishes a b done next r s = record {
    all = λ more. reads-all a done b more r ∙ ap (λ cs. done ++ cs) (s.all more);
    whole = λ more. reads-whole a done b more r ∙ ap (λ cs. done ++ cs) (s.whole more);
    ending = λ more. reads-ending a done b more r ∙ s.ending more;
  }

  pub Reads-Begins : (a b : List ℕ) (done next : List Request) → Reads ends a done b → Begins ends b next → Begins ends a (done ++ next)
  Reads-Begins a b done next r s = record {
    all = λ more. let t = s.all more in (t.0, reads-all a done b more r ∙ ap (λ cs. done ++ cs) t.1 ∙ sym (append_assoc done next t.0));
    whole = λ more. let t = s.whole more in (t.0, reads-whole a done b more r ∙ ap (λ cs. done ++ cs) t.1 ∙ sym (append_assoc done next t.0));
  }

  -- the line's command, and then what is left
  pub Reads-line : (line rest : List ℕ) → HasNoNewline line → is_end ends (ended_line line) ≡ false → Reads ends (line ++ 10 ∷ rest) (line_requests (ended_line line)) rest
  Reads-line line rest none continues = record {
    seen = line ++ 10 ∷ [];
    parts = append_assoc line (10 ∷ []) rest;
    all = λ more. ap (script_requests ends) (append_assoc line (10 ∷ []) more) ∙ script-line line more none ∙ ap (λ cs. line_requests (ended_line line) ++ cs) (goes_on _ [] (script_requests ends more) continues);
    whole = λ more. ap (whole_requests ends) (append_assoc line (10 ∷ []) more) ∙ whole-line line more none ∙ ap (λ cs. line_requests (ended_line line) ++ cs) (goes_on _ [] (whole_requests ends more) continues);
    ending = λ more. ap (has_ending ends) (append_assoc line (10 ∷ []) more) ∙ ending-line line more none ∙ ap (λ b. b || has_ending ends more) continues;
  }

  pub Begins-none : (bytes : List ℕ) → Begins ends bytes []
  Begins-none bytes = record { all = λ more. (script_requests ends (bytes ++ more), refl); whole = λ more. (whole_requests ends (bytes ++ more), refl) }

  pub Finishes-line : (line rest : List ℕ) → HasNoNewline line → is_end ends (ended_line line) ≡ true → Finishes ends (line ++ 10 ∷ rest) (line_requests (ended_line line))
  Finishes-line line rest none ended = record {
    all = λ more. ap (script_requests ends) (append_assoc line (10 ∷ rest) more) ∙ script-line line (rest ++ more) none ∙ ap (λ cs. line_requests (ended_line line) ++ cs) (is_over _ [] (script_requests ends (rest ++ more)) ended) ∙ nil_right _;
    whole = λ more. ap (whole_requests ends) (append_assoc line (10 ∷ rest) more) ∙ whole-line line (rest ++ more) none ∙ ap (λ cs. line_requests (ended_line line) ++ cs) (is_over _ [] (whole_requests ends (rest ++ more)) ended) ∙ nil_right _;
    ending = λ more. ap (has_ending ends) (append_assoc line (10 ∷ rest) more) ∙ ending-line line (rest ++ more) none ∙ ap (λ b. b || has_ending ends (rest ++ more)) ended;
  }

  pub Begins-line : (line rest : List ℕ) (first others : List Request) → HasNoNewline line → line_requests (ended_line line) ≡ first ++ others → Begins ends (line ++ 10 ∷ rest) first
  Begins-line line rest first others none parts = record {
    all = λ more. let tail = if is_end ends (ended_line line) then [] else script_requests ends (rest ++ more) in
        (others ++ tail, ap (script_requests ends) (append_assoc line (10 ∷ rest) more) ∙ script-line line (rest ++ more) none ∙ ap (λ cs. cs ++ tail) parts ∙ append_assoc first others tail);
    whole = λ more. let tail = if is_end ends (ended_line line) then [] else whole_requests ends (rest ++ more) in
        (others ++ tail, ap (whole_requests ends) (append_assoc line (10 ∷ rest) more) ∙ whole-line line (rest ++ more) none ∙ ap (λ cs. cs ++ tail) parts ∙ append_assoc first others tail);
  }

  pub silent-end : (text : List ℕ) → is_silent text ≡ true → is_end_text ends text ≡ false
  silent-end text h = ap (λ b. not b && ends (words_of text)) h

  pub spoken-end : (text : List ℕ) (words : List (List ℕ)) → is_silent text ≡ false → words ≡ words_of text → is_end_text ends text ≡ ends words
  spoken-end text words speaks same = ap (λ b. not b && ends (words_of text)) speaks ∙ ap ends (sym same)

  pub short-end : (line : Line) → is_long_line line ≡ false → is_end ends line ≡ is_end_text ends (text_of line)
  short-end line h = ap (λ b. not b && is_end_text ends (text_of line)) h

  pub long-end : (line : Line) → is_long_line line ≡ true → is_end ends line ≡ false
  long-end line h = ap (λ b. not b && is_end_text ends (text_of line)) h
