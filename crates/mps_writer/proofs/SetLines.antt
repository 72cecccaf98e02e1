-- The lines of RHS and RANGES are those of their pairs.
use Rattle.std.proofs.Common.{◌≡◌, List, [], ◌∷◌, ◌++◌, map, refl, sym, ◌∙◌, ap, ℕ}
use Rattle.std.specs.Prelude.{flat_map, codes, Option, None, Some}
use Rattle.frac128.specs.Rational.{ℚ, neg_ℚ, ◌-ℚ◌}
use Rattle.lp_model.specs.Program.{Program, constant}
use Rattle.lp_model.specs.declared.types.Row.{Row}
use Rattle.mps_writer.specs.Canonical.{WrittenLine, number_line, right_side, rhs_line, range_line_of, range_line}
use Rattle.mps_writer.proofs.PairsBack.{Named, as_line}
use Rattle.mps_writer.proofs.OwnLines.{named_number, map_append, one_line}

-- lines and pairs item by item
flat_are : {A : Type 0} (set : List ℕ) (lines : A → List WrittenLine) (pairs : A → List Named) → ((x : A) → lines x ≡ map (as_line set) (pairs x)) → (xs : List A) → flat_map lines xs ≡ map (as_line set) (flat_map pairs xs)
flat_are set lines pairs h [] = refl
flat_are set lines pairs h (x ∷ xs) =
    ap (λ l. l ++ flat_map lines xs) (h x) ∙ ap (λ l. map (as_line set) (pairs x) ++ l) (flat_are set lines pairs h xs) ∙ sym (map_append (as_line set) (pairs x) (flat_map pairs xs))

-- ---- RHS

abbrev pub side_pairs : Row → List Named
side_pairs r = named_number r.name (right_side r.lo r.hi)

abbrev pub rhs_pairs : Program → List Named
rhs_pairs M = named_number M.obj (neg_ℚ (constant M 1)) ++ (named_number M.obj2 (neg_ℚ (constant M 2)) ++ flat_map side_pairs M.rows)

pub rhs_are : (M : Program) → number_line (codes "RHS") M.obj (neg_ℚ (constant M 1)) ++ (number_line (codes "RHS") M.obj2 (neg_ℚ (constant M 2)) ++ flat_map rhs_line M.rows) ≡ map (as_line (codes "RHS")) (rhs_pairs M)
rhs_are M =
    let set = codes "RHS" in
    let first = named_number M.obj (neg_ℚ (constant M 1)) in
    let second = named_number M.obj2 (neg_ℚ (constant M 2)) in
    let rows = flat_map side_pairs M.rows in
    ap (λ l. l ++ (number_line set M.obj2 (neg_ℚ (constant M 2)) ++ flat_map rhs_line M.rows)) (one_line set M.obj (neg_ℚ (constant M 1)))
    ∙ ap (λ l. map (as_line set) first ++ (l ++ flat_map rhs_line M.rows)) (one_line set M.obj2 (neg_ℚ (constant M 2)))
    ∙ ap (λ l. map (as_line set) first ++ (map (as_line set) second ++ l)) (flat_are set rhs_line side_pairs (λ r. one_line set r.name (right_side r.lo r.hi)) M.rows)
    ∙ ap (λ l. map (as_line set) first ++ l) (sym (map_append (as_line set) second rows))
    ∙ sym (map_append (as_line set) first (second ++ rows))

-- ---- RANGES

abbrev pub range_pairs_of : List ℕ → Option ℚ → Option ℚ → List Named
range_pairs_of name (Some low) (Some high) = named_number name (high -ℚ low)
range_pairs_of name lo hi = []

abbrev pub range_pairs : Row → List Named
range_pairs r = range_pairs_of r.name r.lo r.hi

range_one : (name : List ℕ) (lo hi : Option ℚ) → range_line_of name lo hi ≡ map (as_line (codes "RNG")) (range_pairs_of name lo hi)
range_one name (Some low) (Some high) = one_line (codes "RNG") name (high -ℚ low)
range_one name (Some low) None = refl
range_one name None (Some high) = refl
range_one name None None = refl

pub ranges_are : (rows : List Row) → flat_map range_line rows ≡ map (as_line (codes "RNG")) (flat_map range_pairs rows)
ranges_are rows = flat_are (codes "RNG") range_line range_pairs (λ r. range_one r.name r.lo r.hi) rows
