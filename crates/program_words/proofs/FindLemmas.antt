-- The values that `clap` has found for an argument, by its entries and by its rows.
use Rattle.std.proofs.Common.{◌≡◌, Bool, true, false, List, [], ◌∷◌, map, refl, if◌then◌else◌, Option, Some}
use Rattle.std.specs.Prelude.{option_map, option_and_then, find, slice_get}
use Rattle.std.specs.Borrow.{Bor}
use Rattle.std.specs.Str.{bytes_eq}
use Rattle.clap.specs.Facts.{Entry}
use Rattle.clap.specs.Walk.{Row, Text, row_of, rows_of, first_of}
use Rattle.clap.specs.Matches.{first_value}
use Rattle.clap.specs.declared.parser.matches.Found.{Found}

in_entry : Option Entry → Option Text
in_entry e = option_and_then (λ a. option_map (λ s. s.now) (slice_get a.vals.items 0)) (option_map (λ (e : Entry). e.1) e)

in_row : Option Row → Option Text
in_row r = option_and_then (λ (r : Row). slice_get r.values 0) r

same_entry : (e : Entry) → in_row (Some (row_of e)) ≡ in_entry (Some e)
unfolding in_row in_entry
same_entry e = by e.1.vals.items
  where
    by : (vs : List (Bor Text)) → slice_get (map (λ (s : Bor Text). s.now) vs) 0 ≡ option_map (λ (s : Bor Text). s.now) (slice_get vs 0)
    by [] = refl
    by (v ∷ vs) = refl

same_found : (id : Text) (es : List Entry) → in_row (find (λ (r : Row). bytes_eq r.id id) (map row_of es)) ≡ in_entry (find (λ (e : Entry). bytes_eq e.0.now id) es)
unfolding in_row in_entry
same_found id [] = refl
same_found id (e ∷ es) = by (bytes_eq e.0.now id) (same_found id es)
  where
    by : (t : Bool) → in_row (find (λ (r : Row). bytes_eq r.id id) (map row_of es)) ≡ in_entry (find (λ (e : Entry). bytes_eq e.0.now id) es) → in_row (if t then Some (row_of e) else find (λ (r : Row). bytes_eq r.id id) (map row_of es)) ≡ in_entry (if t then Some e else find (λ (e : Entry). bytes_eq e.0.now id) es)
    by true h = same_entry e
    by false h = h

pub first-same : (f : Found) (id : Text) → first_of id (rows_of f) ≡ first_value f id
unfolding in_row in_entry
first-same f id = same_found id f.entries.items
