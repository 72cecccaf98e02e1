-- What is written of a cut is read back.
use Rattle.std.specs.Prelude.{◌≡◌, ℕ, ◌<◌, true, List, codes, Ok}
use Rattle.std.proofs.Common.{refl}
use Rattle.lp_model.specs.declared.types.Side.{Side}
use Rattle.lp_model.specs.declared.types.Side.TheVariants.{Lo, Hi}
use Rattle.lp_model.specs.declared.types.Literal.{Literal}
use Rattle.lp_model.specs.declared.types.Derivation.{Derivation}
use Rattle.warm_file.specs.Faults.{behind, or_fault}
use Rattle.warm_file.specs.Values.{list_of, place_below}
use Rattle.warm_file.specs.Rising.{is_past, literal_of}
use Rattle.warm_file.specs.Searches.{row_side_of, cut_of}
use Rattle.warm_file.proofs.Saying.{ok-next, ok-then, under-ok}
use Rattle.warm_writer.specs.Written.{place_json, list_json, row_side_word, literal_json, cut_json}
use Rattle.warm_writer.specs.Writable.{IsWritableCut}
use Rattle.warm_writer.proofs.PointBack.{place-back}
use Rattle.warm_writer.proofs.Splits.{all-here, pair-here, past-all, member-back, list-splits}

pub side-word-back : (s : Side) → row_side_of (row_side_word s) ≡ Ok s
unfolding row_side_of behind or_fault
side-word-back Lo = refl
side-word-back Hi = refl

literal-back : (n : ℕ) (before : List Literal) (l : Literal) → l.col.0 < n → is_past (λ (m : Literal). m.col.0) before l.col.0 ≡ true → literal_of n before (literal_json l) ≡ Ok l
unfolding literal_of or_fault
literal-back n before l there past =
    ok-next _ _ _ l refl (ok-next _ _ l.col.0 l (under-ok _ _ l.col.0 (place-back n l.col.0 there)) (ok-then _ _ _ l past (ok-next _ _ l.plus l (under-ok _ _ l.plus refl) refl)))

pub cut-back : (rows columns : ℕ) (d : Derivation) → IsWritableCut rows columns d → cut_of rows columns (cut_json d) ≡ Ok d
unfolding cut_of
cut-back rows columns d w =
    let literals =
    list-splits (literal_of columns) literal_json d.literals
    (λ before after l e. literal-back columns before l (all-here d.literals before after l e (λ (m : Literal). m.col.0 < columns) w.literals)
    (past-all (λ (m : Literal). m.col.0) before l.col.0 (λ k m below. pair-here d.literals before after l e (λ (a b : Literal). a.col.0 < b.col.0) w.rising k m below))) in
    ok-next _ _ d.row.0 d (member-back (codes "row") (place_below rows) (cut_json d) (place_json d.row.0) d.row.0 refl (place-back rows d.row.0 w.row))
    (ok-next _ _ d.side d (member-back (codes "side") row_side_of (cut_json d) (row_side_word d.side) d.side refl (side-word-back d.side))
    (ok-next _ _ d.literals d (member-back (codes "lits") (list_of (literal_of columns)) (cut_json d) (list_json literal_json d.literals) d.literals refl literals) refl))
