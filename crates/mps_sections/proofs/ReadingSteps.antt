-- Reading line by line: what stays the same, and where it ends.
use Rattle.std.proofs.Common.{◌≡◌, ℕ, Bool, true, false, List, [], ◌∷◌, ◌++◌, sym, ◌∙◌, ap, subst}
use Rattle.std.specs.Prelude.{Option, None, Some, Ok, Err}
use Rattle.mps_text.specs.Text.{Entry, Flaw, Item, records_of}
use Rattle.mps_sections.specs.Statements.{StatedModel, stated, sections_in}
use Rattle.mps_sections.specs.Faults.{code_in, code_at, HasFault, IsCut, reached, End, past}
use Rattle.mps_fields.specs.Fields.{is_end}
use Rattle.mps_sections.specs.Shown.{after}
use Rattle.mps_sections.specs.ReadingOf.{AreSectionsOf, OnLine}
use Rattle.mps_sections.specs.private.ReadingOf.{IsWholeStated, IsStopAt, IsTablesReading}
use Rattle.mps_sections.specs.declared.statements.Sections.{Sections}
use Rattle.mps_sections.specs.declared.reading.Stop.{Stop}
use Rattle.mps_sections.specs.declared.reading.Stop.TheVariants.{Fault, Memory}
use Rattle.mps_sections.proofs.StatedSteps.{stated_more}
use Rattle.mps_sections.proofs.Reached.{fault_from, whole_from, cut_from}

-- behind some entries of a text, which are clean: what is left, and what is held
pub record IsBehind (text : List ℕ) (left : List Item) (s : StatedModel) : Type 0 where
  pub seen : List Entry
  pub holds : s ≡ stated seen
  pub same : reached seen left ≡ reached [] (records_of text)

pub at_start : (text : List ℕ) (left : List Item) (s : StatedModel) → left ≡ records_of text → s ≡ stated [] → IsBehind text left s
at_start text left s e h = record { seen = []; holds = h; same = ap (reached []) e }

code_behind : (seen : List Entry) (s : StatedModel) (e : Entry) (code : Option ℕ) → s ≡ stated seen → code_in s e ≡ code → code_at seen e ≡ code
unfolding code_at
code_behind seen s e code h c = ap (λ (t : StatedModel). code_in t e) (sym h) ∙ c

pub bad_line : (text : List ℕ) (left more : List Item) (s : StatedModel) (flaw : Flaw) → IsBehind text left s → left ≡ Err flaw ∷ more → HasFault [] (records_of text) flaw
unfolding reached
bad_line text left more s flaw b e = fault_from (records_of text) flaw (sym b.same ∙ ap (reached b.seen) e)

pub faulty_line : (text : List ℕ) (left more : List Item) (s : StatedModel) (e : Entry) (code : ℕ) → IsBehind text left s → left ≡ Ok e ∷ more → code_in s e ≡ Some code → HasFault [] (records_of text) (record { line = e.line; code = code })
unfolding reached
faulty_line text left more s e code b l c =
    let here = code_behind b.seen s e (Some code) b.holds c in
    fault_from (records_of text) (record { line = e.line; code = code }) (sym b.same ∙ ap (reached b.seen) l ∙ ap (λ found. past found (is_end e) b.seen e (reached (b.seen ++ e ∷ []) more)) here)

past_clean : (seen : List Entry) (e : Entry) (behind : End) (ended : Bool) → code_at seen e ≡ None → is_end e ≡ ended → past (code_at seen e) (is_end e) seen e behind ≡ past None ended seen e behind
past_clean seen e behind ended c d = ap (λ code. past code (is_end e) seen e behind) c ∙ ap (λ b. past None b seen e behind) d

held_more : (seen : List Entry) (s t : StatedModel) (e : Entry) → s ≡ stated seen → code_at seen e ≡ None → t ≡ after s e → t ≡ stated (seen ++ e ∷ [])
held_more seen s t e h c n = n ∙ ap (λ (u : StatedModel). after u e) h ∙ sym (stated_more seen e c)

pub last_line : (text : List ℕ) (left more : List Item) (s t : StatedModel) (e : Entry) → IsBehind text left s → left ≡ Ok e ∷ more → code_in s e ≡ None → t ≡ after s e → is_end e ≡ true → IsWholeStated text t
unfolding reached
last_line text left more s t e b l c n d =
    let here = code_behind b.seen s e None b.holds c in
    record {
      entries = b.seen ++ e ∷ [];
      whole = whole_from (records_of text) (b.seen ++ e ∷ []) (sym b.same ∙ ap (reached b.seen) l ∙ past_clean b.seen e (reached (b.seen ++ e ∷ []) more) true here d);
      holds = held_more b.seen s t e b.holds here n;
    }

pub next_line : (text : List ℕ) (left more : List Item) (s t : StatedModel) (e : Entry) → IsBehind text left s → left ≡ Ok e ∷ more → code_in s e ≡ None → t ≡ after s e → is_end e ≡ false → IsBehind text more t
unfolding reached
next_line text left more s t e b l c n d =
    let here = code_behind b.seen s e None b.holds c in
    record {
      seen = b.seen ++ e ∷ [];
      holds = held_more b.seen s t e b.holds here n;
      same = sym (past_clean b.seen e (reached (b.seen ++ e ∷ []) more) false here d) ∙ ap (reached b.seen) (sym l) ∙ b.same;
    }

pub no_line : (text : List ℕ) (left : List Item) (s : StatedModel) → IsBehind text left s → left ≡ [] → IsCut [] (records_of text)
unfolding reached
no_line text left s b e = cut_from (records_of text) (sym b.same ∙ ap (reached b.seen) e)

pub stopped : (text : List ℕ) (left more : List Item) (s : StatedModel) (e : Entry) (stop : Stop) → IsBehind text left s → left ≡ Ok e ∷ more → IsStopAt (code_in s e) e.line stop → IsTablesReading text (Err stop)
stopped text left more s e (Fault f) b l h =
    let at : HasFault [] (records_of text) (record { line = e.line; code = f.code }) = faulty_line text left more s e f.code b l h.0 in
    OnLine (subst (λ n. HasFault [] (records_of text) (record { line = n; code = f.code })) (sym h.1) at)
stopped text left more s e Memory b l h = tt

-- the lists of what a whole text states
pub sections_of_whole : (text : List ℕ) (s : StatedModel) (sections : Sections) → IsWholeStated text s → sections ≡ sections_in s → AreSectionsOf text sections
sections_of_whole text s sections w e = record { entries = w.entries; whole = w.whole; is = e ∙ ap sections_in w.holds }
