-- From the bytes that were taken to all that the source has, where it tells them.
use Rattle.std.proofs.Common.{◌≡◌, ℕ, ◌≤◌, ◌<◌, ◌+◌, ◌-◌, List, [], ◌∷◌, ◌++◌, length, take, drop, refl, sym, ◌∙◌, ap, append_assoc, append-nil, subst, arith, Option, Some, None, true, false, Bool, inl, inr, length-append}
use Rattle.std.specs.Prelude.{if◌then◌else◌, ◌==◌, nat_le, ◌⊎◌}
use Rattle.std.specs.List.{list_any}
use Rattle.std.specs.Io.KnownBytes.{Consumes, IsAtEnd}
use Rattle.std.proofs.lemmas.Bool.Decides.{nat_tests}
use Rattle.std.proofs.lemmas.List.{take-append-drop, take-append-le, take_all}
use Rattle.std.proofs.lemmas.List.Elements.{All-nil, All-append, All-cons}
use Rattle.std.proofs.Math.Seq.{take-append-add}
use Rattle.script_session.specs.Request.{Command, Request}
use Rattle.script_session.specs.Reply.{final_status, status_of, wants_memory, is_error}
use Rattle.text_lines.specs.Lines.{HasNoNewline, is_newline, ended_line}
use Rattle.script_session.specs.Script.{line_requests, is_end, script_requests, whole_requests, has_ending, IsWithinLimit, IsOverlong}
use Rattle.script_session.specs.private.Session.{Reads, Finishes}
use Rattle.script_session.specs.Run.{Outside, Answers, IsCutOff, IsCutShort, IsAll, IsAnswerable, EndsAs, Finished, SourceFailed, SinkFailed, MemoryWanted, TooLong}
use Rattle.script_session.specs.Told.{allowed_requests, IsRunOf, ToldLaw}
use Rattle.script_session.specs.Limits.{script_limit}
use Rattle.script_session.proofs.ReadLemmas.{whole_taken, ending_taken}
use Rattle.script_session.proofs.SessionLemmas.{LosesReply-more}
use Rattle.script_session.proofs.ScriptLemmas.{reads-all, reads-whole, Reads-start, Reads-append, Reads-Finishes, Reads-line, Finishes-line, nil_right}

-- bytes with a line that ends the script, or with whole lines and then a last one
data Parts (ends : Command → Bool) (bytes : List ℕ) : Type 0 where
  Open : (done : List Request) (left : List ℕ) → Reads ends bytes done left → HasNoNewline left → Parts ends bytes
  Over : (done : List Request) → Finishes ends bytes done → Parts ends bytes

newline_is : (byte : ℕ) → (byte == 10) ≡ true → byte ≡ 10
newline_is byte h = grind (arith, nat_tests)

fits_test : (n limit : ℕ) → n ≤ limit → nat_le n limit ≡ true
fits_test n limit le = grind (arith, nat_tests)

none : HasNoNewline []
none = All-nil (λ byte. is_newline byte ≡ false)

-- the front of what was taken is that of all, as far as was taken
front_of : (n : ℕ) (taken rest : List ℕ) → (more : List ℕ) × (take n (taken ++ rest) ≡ take n taken ++ more)
front_of n taken rest = by (nat_le n (length taken)) refl
  where
    by : (b : Bool) → nat_le n (length taken) ≡ b → (more : List ℕ) × (take n (taken ++ rest) ≡ take n taken ++ more)
    by true e = let le : n ≤ length taken = grind (arith, nat_tests) in ([], take-append-le n taken rest le ∙ sym (append-nil (take n taken)))
    by false e =
        let lt : length taken < n = grind (arith, nat_tests) in
        let sum : n ≡ length taken + (n - length taken) = omega arith in
        let all : take n taken ≡ taken = take_all n taken (omega arith) in
        (take (n - length taken) rest, ap (λ k. take k (taken ++ rest)) sum ∙ take-append-add taken rest (n - length taken) ∙ ap (λ xs. xs ++ take (n - length taken) rest) (sym all))

module _ (ends : Command → Bool) where
  parts_line : (line rest : List ℕ) → HasNoNewline line → Parts ends rest → Parts ends (line ++ 10 ∷ rest)
  parts_line line rest clean parts = by (is_end ends (ended_line line)) refl parts
    where
      by : (b : Bool) → is_end ends (ended_line line) ≡ b → Parts ends rest → Parts ends (line ++ 10 ∷ rest)
      by true e p = Over (line_requests (ended_line line)) (Finishes-line ends line rest clean e)
      by false e (Open done left reads last) = Open (line_requests (ended_line line) ++ done) left (Reads-append ends (line ++ 10 ∷ rest) rest left (line_requests (ended_line line)) done (Reads-line ends line rest clean e) reads) last
      by false e (Over done finishes) = Over (line_requests (ended_line line) ++ done) (Reads-Finishes ends (line ++ 10 ∷ rest) rest (line_requests (ended_line line)) done (Reads-line ends line rest clean e) finishes)

  parts_from : (line bytes : List ℕ) → HasNoNewline line → Parts ends (line ++ bytes)
  parts_from line [] clean = Open [] (line ++ []) (Reads-start ends (line ++ [])) (subst HasNoNewline (sym (append-nil line)) clean)
  parts_from line (byte ∷ bytes) clean = by (byte == 10) refl (parts_from [] bytes none) (parts_from (line ++ byte ∷ []) bytes)
    where
      by : (b : Bool) → (byte == 10) ≡ b → Parts ends bytes → (HasNoNewline (line ++ byte ∷ []) → Parts ends ((line ++ byte ∷ []) ++ bytes)) → Parts ends (line ++ byte ∷ bytes)
      by true e rest on = subst (λ (x : ℕ). Parts ends (line ++ x ∷ bytes)) (sym (newline_is byte e)) (parts_line line bytes clean rest)
      by false e rest on = subst (λ xs. Parts ends xs) (append_assoc line (byte ∷ []) bytes) (on (All-append (λ byte. is_newline byte ≡ false) line (byte ∷ []) clean (All-cons (λ byte. is_newline byte ≡ false) byte [] e none)))

  parts : (bytes : List ℕ) → Parts ends bytes
  parts bytes = parts_from [] bytes none

  over_whole : (bytes : List ℕ) (done : List Request) → Finishes ends bytes done → whole_requests ends bytes ≡ done
  over_whole bytes done finishes = ap (whole_requests ends) (sym (append-nil bytes)) ∙ finishes.whole []

  -- a line that ends the script does so whatever follows
  ending_more : (bytes more : List ℕ) → has_ending ends bytes ≡ true → has_ending ends (bytes ++ more) ≡ true
  ending_more bytes more h = by (parts bytes)
    where
      by : Parts ends bytes → has_ending ends (bytes ++ more) ≡ true
      by (Open done left reads last) = let unended = ending_taken ends bytes done left reads last in absurd (cc)
      by (Over done finishes) = finishes.ending more

  -- what the whole lines ask is asked first
  script_more : (bytes more : List ℕ) → (rest : List Request) × (script_requests ends (bytes ++ more) ≡ whole_requests ends bytes ++ rest)
  script_more bytes more = by (parts bytes)
    where
      by : Parts ends bytes → (rest : List Request) × (script_requests ends (bytes ++ more) ≡ whole_requests ends bytes ++ rest)
      by (Open done left reads last) = (script_requests ends (left ++ more), reads-all ends bytes done left more reads ∙ ap (λ asked. asked ++ script_requests ends (left ++ more)) (sym (whole_taken ends bytes done left reads last)))
      by (Over done finishes) = ([], finishes.all more ∙ sym (over_whole bytes done finishes) ∙ sym (nil_right _))

  whole_more : (bytes more : List ℕ) → (rest : List Request) × (whole_requests ends (bytes ++ more) ≡ whole_requests ends bytes ++ rest)
  whole_more bytes more = by (parts bytes)
    where
      by : Parts ends bytes → (rest : List Request) × (whole_requests ends (bytes ++ more) ≡ whole_requests ends bytes ++ rest)
      by (Open done left reads last) = (whole_requests ends (left ++ more), reads-whole ends bytes done left more reads ∙ ap (λ asked. asked ++ whole_requests ends (left ++ more)) (sym (whole_taken ends bytes done left reads last)))
      by (Over done finishes) = ([], finishes.whole more ∙ sym (over_whole bytes done finishes) ∙ sym (nil_right _))

  -- where a line has ended the script, nothing else is asked
  ending_same : (bytes more : List ℕ) → has_ending ends bytes ≡ true → whole_requests ends bytes ≡ script_requests ends (bytes ++ more)
  ending_same bytes more h = by (parts bytes)
    where
      by : Parts ends bytes → whole_requests ends bytes ≡ script_requests ends (bytes ++ more)
      by (Open done left reads last) = let unended = ending_taken ends bytes done left reads last in absurd (cc)
      by (Over done finishes) = over_whole bytes done finishes ∙ sym (finishes.all more)

  -- so what was taken asks all that is asked
  taken_all : (input taken rest : List ℕ) (left' : Option (List ℕ)) → input ≡ taken ++ rest → (IsAtEnd left' → rest ≡ []) → IsAll ends left' taken → script_requests ends input ≡ script_requests ends taken
  taken_all input taken rest left' e end (inl over) = ap (script_requests ends) (e ∙ ap (λ xs. taken ++ xs) (end over) ∙ append-nil taken)
  taken_all input taken rest left' e end (inr ended) =
      ap (script_requests ends) e ∙ sym (ending_same taken rest ended) ∙ ending_same taken [] ended ∙ ap (script_requests ends) (append-nil taken)

  allowed_short : (input : List ℕ) → length input ≤ script_limit → allowed_requests ends input ≡ script_requests ends input
  allowed_short input le = ap (λ (b : Bool). if b then script_requests ends input else whole_requests ends (take script_limit input)) (fits_test (length input) script_limit le)

  -- what may be answered of what was taken may be answered of all
  allowed_first : (input taken rest : List ℕ) → input ≡ taken ++ rest → (others : List Request) × (allowed_requests ends input ≡ whole_requests ends (take script_limit taken) ++ others)
  allowed_first input taken rest e =
      elim (nat_le (length input) script_limit) as (λ b. (others : List Request) × ((if b then script_requests ends input else whole_requests ends (take script_limit input)) ≡ whole_requests ends (take script_limit taken) ++ others)) [
        | true ↦
            let found = script_more (take script_limit taken) (drop script_limit taken ++ rest) in
            let same = e ∙ ap (λ xs. xs ++ rest) (sym (take-append-drop script_limit taken)) ∙ append_assoc (take script_limit taken) (drop script_limit taken) rest in
            (found.0, ap (script_requests ends) same ∙ found.1)
        | false ↦
            let front = front_of script_limit taken rest in
            let found = whole_more (take script_limit taken) front.0 in
            (found.0, ap (λ xs. whole_requests ends (take script_limit xs)) e ∙ ap (whole_requests ends) front.1 ∙ found.1)
      ]

  answerable_first : (input taken rest : List ℕ) (left' : Option (List ℕ)) (asked first others : List Request) → input ≡ taken ++ rest → (IsAtEnd left' → rest ≡ []) → IsAnswerable ends left' taken asked → asked ≡ first ++ others → (more : List Request) × (allowed_requests ends input ≡ first ++ more)
  answerable_first input taken rest left' asked first others e end (inl whole) parts =
      let found = allowed_first input taken rest e in
      (others ++ found.0, found.1 ∙ ap (λ requests. requests ++ found.0) (sym whole ∙ parts) ∙ append_assoc first others found.0)
  answerable_first input taken rest left' asked first others e end (inr (over, fits, all)) parts =
      let same = e ∙ ap (λ xs. taken ++ xs) (end over) ∙ append-nil taken in
      let long = ap length same in
      (others, allowed_short input (omega arith) ∙ ap (script_requests ends) same ∙ sym all ∙ parts)

  within_all : (input taken rest : List ℕ) (left' : Option (List ℕ)) → input ≡ taken ++ rest → (IsAtEnd left' → rest ≡ []) → IsAll ends left' taken → IsWithinLimit ends taken → IsWithinLimit ends input
  within_all input taken rest left' e end all (inr ended) =
      let front = front_of script_limit taken rest in
      inr (ap (λ xs. has_ending ends (take script_limit xs)) e ∙ ap (has_ending ends) front.1 ∙ ending_more (take script_limit taken) front.0 ended)
  within_all input taken rest left' e end (inl over) (inl fits) =
      let long = ap length (e ∙ ap (λ xs. taken ++ xs) (end over) ∙ append-nil taken) in
      inl (omega arith)
  within_all input taken rest left' e end (inr ended) (inl fits) =
      let front = front_of script_limit taken rest in
      let whole = take_all script_limit taken fits in
      inr (ap (λ xs. has_ending ends (take script_limit xs)) e ∙ ap (has_ending ends) front.1 ∙ ending_more (take script_limit taken) front.0 (ap (has_ending ends) whole ∙ ended))

  overlong_front : (input taken rest : List ℕ) → input ≡ taken ++ rest → IsOverlong ends taken → take script_limit input ≡ take script_limit taken
  overlong_front input taken rest e h = let long = h.0 in ap (take script_limit) e ∙ take-append-le script_limit taken rest (omega arith)

told : (input taken : List ℕ) (left' : Option (List ℕ)) → Consumes (Some input) left' taken → (rest : List ℕ) × (input ≡ taken ++ rest) × (IsAtEnd left' → rest ≡ [])
told input taken None h = absurd h
told input taken (Some rest) h = (rest, h, λ e. e)

-- the status of a script that came to its end
whole_status : (wanted refused : Bool) → (final_status wanted refused < 2) ⊎ (final_status wanted refused ≡ 5)
whole_status true refused = inr refl
whole_status false true = inl (omega arith)
whole_status false false = inl (omega arith)

some_wanted : (wanted refused : Bool) → final_status wanted refused ≡ 5 → wanted ≡ true
some_wanted true refused five = refl
some_wanted false true five = let e : 1 ≡ 5 = five in absurd (omega (arith, e))
some_wanted false false five = let e : 0 ≡ 5 = five in absurd (omega (arith, e))

module _ {S : Type 0} (step : S → Request → List ℕ → S → Type 0) (ends : Command → Bool) (input taken rest : List ℕ) (left' : Option (List ℕ)) (old : S) (before : Outside) (new : S) (after : Outside) (status : ℕ) (e : input ≡ taken ++ rest) (end : IsAtEnd left' → rest ≡ []) where
  finished : (replies : List (List ℕ)) → Answers step (script_requests ends taken) old before new after replies → IsAll ends left' taken → IsWithinLimit ends taken → status ≡ status_of replies
      → IsRunOf step ends input old before new after status
  finished replies answers all within is =
      let same = taken_all ends input taken rest left' e end all in
      let known = whole_status (list_any wants_memory replies) (list_any is_error replies) in
      let inside = within_all ends input taken rest left' e end all within in
      let answered = subst (λ (asked : List Request). Answers step asked old before new after replies) (sym same) answers in
      record {
        transcript = λ _. (replies, answered, is);
        within = λ _. inside;
        until_sink_failed = λ four. absurd (elim known [ inl low ↦ omega arith | inr five ↦ omega arith ]);
        until_memory_wanted = λ five. inl (record { within = inside; replies = replies; answered = answered; wanting = some_wanted (list_any wants_memory replies) (list_any is_error replies) (sym is ∙ five) });
        too_long = λ six. absurd (elim known [ inl low ↦ omega arith | inr five ↦ omega arith ]);
        until_too_long = λ six. absurd (elim known [ inl low ↦ omega arith | inr five ↦ omega arith ]);
      }

  source_failed : status ≡ 3 → IsRunOf step ends input old before new after status
  source_failed is = record {
    transcript = λ below. absurd (omega arith);
    within = λ below. absurd (omega arith);
    until_sink_failed = λ four. absurd (omega arith);
    until_memory_wanted = λ five. absurd (omega arith);
    too_long = λ six. absurd (omega arith);
    until_too_long = λ six. absurd (omega arith);
  }

  sink_failed : (asked : List Request) → IsAnswerable ends left' taken asked → IsCutOff step asked old before new after → status ≡ 4 → IsRunOf step ends input old before new after status
  sink_failed asked answerable cut is =
      let found = answerable_first ends input taken rest left' asked cut.first cut.rest e end answerable cut.parts in
      record {
        transcript = λ below. absurd (omega arith);
        within = λ below. absurd (omega arith);
        until_sink_failed = λ _. record { first = cut.first; rest = found.0; parts = found.1; replies = cut.replies; broken = cut.broken; transcript = cut.transcript; bytes = cut.bytes; unwritten = cut.unwritten; front = cut.front; some = cut.some; output = cut.output };
        until_memory_wanted = λ five. absurd (omega arith);
        too_long = λ six. absurd (omega arith);
        until_too_long = λ six. absurd (omega arith);
      }

  -- what was not gone through of what was taken was not gone through of all
  cut_short : (asked : List Request) → IsAnswerable ends left' taken asked → IsCutShort step ends (take script_limit taken) asked old before new after → IsCutShort step ends (take script_limit input) (allowed_requests ends input) old before new after
  cut_short asked answerable cut =
      let front = front_of script_limit taken rest in
      let found = answerable_first ends input taken rest left' asked asked [] e end answerable (sym (nil_right asked)) in
      let one = cut.some in
      record {
        seen = cut.seen;
        behind = cut.behind ++ front.0;
        parts = ap (take script_limit) e ∙ front.1 ∙ ap (λ xs. xs ++ front.0) cut.parts ∙ append_assoc cut.seen cut.behind front.0;
        some = omega (arith, one, length-append cut.behind front.0);
        unended = cut.unended;
        mid = cut.mid;
        replies = cut.replies;
        answered = cut.answered;
        rest = cut.rest ++ found.0;
        asks = found.1 ∙ ap (λ requests. requests ++ found.0) cut.asks ∙ append_assoc (whole_requests ends cut.seen) cut.rest found.0;
        lost = LosesReply-more step cut.mid new cut.rest found.0 cut.lost;
      }

  memory_wanted : (asked : List Request) → IsAnswerable ends left' taken asked → IsCutShort step ends (take script_limit taken) asked old before new after → status ≡ 5 → IsRunOf step ends input old before new after status
  memory_wanted asked answerable cut is =
      let all = cut_short asked answerable cut in
      record {
        transcript = λ below. absurd (omega arith);
        within = λ below. absurd (omega arith);
        until_sink_failed = λ four. absurd (omega arith);
        until_memory_wanted = λ _. inr all;
        too_long = λ six. absurd (omega arith);
        until_too_long = λ six. absurd (omega arith);
      }

  too_long : (replies : List (List ℕ)) → Answers step (whole_requests ends (take script_limit taken)) old before new after replies → IsOverlong ends taken → status ≡ 6 → IsRunOf step ends input old before new after status
  too_long replies answers overlong is =
      let front = overlong_front ends input taken rest e overlong in
      let long = ap length e in
      let many = overlong.0 in
      record {
        transcript = λ below. absurd (omega arith);
        within = λ below. absurd (omega arith);
        until_sink_failed = λ four. absurd (omega arith);
        until_memory_wanted = λ five. absurd (omega arith);
        too_long = λ _. (omega (arith, length-append taken rest), ap (has_ending ends) front ∙ overlong.1);
        until_too_long = λ _. (replies, subst (λ (bytes : List ℕ). Answers step (whole_requests ends bytes) old before new after replies) (sym front) answers);
      }

pub told_law : ToldLaw
told_law S step ends input old before new after status from run =
    let consumed = subst (λ (left : Option (List ℕ)). Consumes left after.left run.taken) from run.consumed in
    let t = told input run.taken after.left consumed in
    by t.0 t.1 t.2 run.ended
  where
    by : (rest : List ℕ) → input ≡ run.taken ++ rest → (IsAtEnd after.left → rest ≡ []) → EndsAs step ends run.front run.taken old before new after status → IsRunOf step ends input old before new after status
    by rest e end (Finished replies answers all within is) = finished step ends input run.taken rest after.left old before new after status e end replies answers all within is
    by rest e end (SourceFailed replies answers within unended rose is) = source_failed step ends input run.taken rest after.left old before new after status e end is
    by rest e end (SinkFailed asked answerable cut prompt rose is) = sink_failed step ends input run.taken rest after.left old before new after status e end asked answerable cut is
    by rest e end (MemoryWanted asked answerable cut prompt is) = memory_wanted step ends input run.taken rest after.left old before new after status e end asked answerable cut is
    by rest e end (TooLong replies answers overlong is) = too_long step ends input run.taken rest after.left old before new after status e end replies answers overlong is
