-- The names of the rows that a text states are plain: each is the second word of a line of two.
use Rattle.std.proofs.Common.{◌≡◌, ℕ, zero, suc, refl, ◌<◌, false, not, ◌&&◌, List, [], ◌∷◌, ◌++◌, length, sym, subst, arith, append_assoc}
use Rattle.std.specs.Prelude.{nat_le, Option, None, Some}
use Rattle.std.specs.List.{All}
use Rattle.std.proofs.lemmas.List.Elements.{All-nil, All-cons, All-append, All-head, All-tail, All-get_or}
use Rattle.text_lines.specs.Words.{IsWord}
use Rattle.mps_text.specs.Text.{Entry, records_of}
use Rattle.mps_fields.specs.Words.{word, row_kind, line_kind}
use Rattle.mps_sections.specs.Statements.{StatedModel, stated, gathered_behind, as_row}
use Rattle.mps_sections.specs.Faults.{least, tests_of, row_tests, code_at, Clean, IsWholeText}
use Rattle.mps_fields.specs.Fields.{has_count}
use Rattle.mps_sections.specs.Shown.{after_kind, after}
use Rattle.mps_fields.specs.declared.words.LineKind.{LineKind}
use Rattle.mps_fields.specs.declared.words.LineKind.TheVariants.{Header, SenseLine, Row, Marker, Column, RightSide, Range, Bound, Stray}
use Rattle.mps_fields.specs.declared.words.RowKind.{RowKind}
use Rattle.mps_fields.specs.declared.words.RowKind.TheVariants.{Free, AtMost, AtLeast, Equal}
use Rattle.mps_sections.specs.declared.statements.RowLine.{RowLine}
use Rattle.mps_sections.proofs.TestFacts.{none_holds, code_of_kind}
use Rattle.mps_sections.proofs.StatedSteps.{nothing_more, stated_more}
use Rattle.mps_sections.proofs.PlainNames.{IsPlainEntry, plain_entries}

abbrev pub ArePlain : List RowLine → Type 0
ArePlain = All (λ (r : RowLine). IsWord r.name)

one_more : (sided : List RowLine) (r : RowLine) → IsWord r.name → ArePlain sided → ArePlain (sided ++ r ∷ [])
one_more sided r p h = All-append (λ (q : RowLine). IsWord q.name) sided (r ∷ []) h (All-cons (λ (q : RowLine). IsWord q.name) r [] p (All-nil (λ (q : RowLine). IsWord q.name)))

no_more : (sided : List RowLine) → ArePlain sided → ArePlain (sided ++ [])
no_more sided h = All-append (λ (q : RowLine). IsWord q.name) sided [] h (All-nil (λ (q : RowLine). IsWord q.name))

with_row : (kind : Option RowKind) (name : List ℕ) (sided : List RowLine) → IsWord name → ArePlain sided → ArePlain (sided ++ as_row kind name)
with_row None name sided p h = no_more sided h
with_row (Some Free) name sided p h = no_more sided h
with_row (Some AtMost) name sided p h = one_more sided (record { name = name; kind = AtMost }) p h
with_row (Some AtLeast) name sided p h = one_more sided (record { name = name; kind = AtLeast }) p h
with_row (Some Equal) name sided p h = one_more sided (record { name = name; kind = Equal }) p h

second : (e : Entry) → IsPlainEntry e → not (has_count e 2 2) ≡ false → IsWord (word 1 e)
second e p h = All-get_or IsWord e.words 1 [] (two (length e.words) h) p.all
  where
    two : (n : ℕ) → not (nat_le 2 n && nat_le n 2) ≡ false → 1 < n
    two zero e = absurd (cc)
    two (suc zero) e = absurd (cc)
    two (suc (suc n)) e = omega arith

kept_by_kind : (kind : LineKind) (s : StatedModel) (e : Entry) → IsPlainEntry e → least (tests_of kind s e) ≡ None → ArePlain s.rows → ArePlain (after_kind kind s e).rows
kept_by_kind Header s e p none h = h
kept_by_kind SenseLine s e p none h = h
kept_by_kind Row s e p none h = with_row (row_kind (word 0 e)) (word 1 e) s.rows (second e p (none_holds (row_tests s e) none).0) h
kept_by_kind Marker s e p none h = h
kept_by_kind Column s e p none h = h
kept_by_kind RightSide s e p none h = h
kept_by_kind Range s e p none h = h
kept_by_kind Bound s e p none h = h
kept_by_kind Stray s e p none h = h

kept_behind : (seen : List Entry) (e : Entry) → IsPlainEntry e → code_at seen e ≡ None → ArePlain (stated seen).rows → ArePlain (stated (seen ++ e ∷ [])).rows
unfolding code_at after
kept_behind seen e p none h =
    let s = stated seen in
    subst (λ (t : StatedModel). ArePlain t.rows) (sym (stated_more seen e none)) (kept_by_kind (line_kind s.section e) s e p (code_of_kind s e (line_kind s.section e) refl none) h)

kept_at_start : ArePlain (stated []).rows
unfolding stated gathered_behind
kept_at_start = All-nil (λ (r : RowLine). IsWord r.name)

kept_clean : (seen more : List Entry) → All IsPlainEntry more → Clean seen more → ArePlain (stated seen).rows → ArePlain (stated (seen ++ more)).rows
kept_clean seen [] p clean h = subst (λ (es : List Entry). ArePlain (stated es).rows) (sym (nothing_more seen)) h
kept_clean seen (e ∷ more) p clean h =
    subst (λ (es : List Entry). ArePlain (stated es).rows) (append_assoc seen (e ∷ []) more)
    (kept_clean (seen ++ e ∷ []) more (All-tail IsPlainEntry e more p) clean.2 (kept_behind seen e (All-head IsPlainEntry e more p) clean.0 h))

split_all : (before : List Entry) (last : Entry) → All IsPlainEntry (before ++ last ∷ []) → All IsPlainEntry before × IsPlainEntry last
split_all [] last h = (All-nil IsPlainEntry, All-head IsPlainEntry last [] h)
split_all (e ∷ before) last h =
    let rest = split_all before last (All-tail IsPlainEntry e (before ++ last ∷ []) h) in
    (All-cons IsPlainEntry e before (All-head IsPlainEntry e (before ++ last ∷ []) h) rest.0, rest.1)

pub whole_rows : (text : List ℕ) (entries : List Entry) → IsWholeText [] (records_of text) entries → ArePlain (stated entries).rows
whole_rows text entries w =
    let plain = split_all w.before w.last (subst (All IsPlainEntry) w.all (plain_entries text entries w)) in
    subst (λ (es : List Entry). ArePlain (stated es).rows) (sym w.all) (kept_behind w.before w.last plain.1 w.clean_last (kept_clean [] w.before plain.0 w.clean kept_at_start))
