-- How many entries more there may be behind columns, column by column.
use Rattle.std.specs.Prelude.{◌≡◌, ℕ, ◌+◌, ◌-◌, ◌<◌, false, List, length, get_or, take}
use Rattle.std.proofs.Common.{sym, ap, ◌∙◌, arith}
use Rattle.std.proofs.lemmas.List.Sums.{sum_by_more}
use Rattle.lp_model.specs.Limits.{entry_limit}
use Rattle.lp_model.specs.declared.types.Col.{Col}
use Rattle.warm_file.specs.Models.{entries_in, room_behind}

less-room : (before behind n room next limit : ℕ) → behind ≡ before + n → next ≡ room - n → room ≡ limit - before → next ≡ limit - behind
less-room before behind n room next limit more less h = omega (arith, more, less, h)

pub room-next : (cols : List Col) (i : ℕ) (col : Col) (n room next : ℕ) → i < length cols → col ≡ get_or cols i col → n ≡ length col.rows → next ≡ room - n → room ≡ room_behind (take i cols) → next ≡ room_behind (take (i + 1) cols)
room-next cols i col n room next below is count less h =
    let more : entries_in (take (i + 1) cols) ≡ entries_in (take i cols) + length (get_or cols i col).rows = sum_by_more (λ (c : Col). length c.rows) cols i col below in
    let same : length (get_or cols i col).rows ≡ n = ap (λ (c : Col). length c.rows) (sym is) ∙ sym count in
    less-room (entries_in (take i cols)) (entries_in (take (i + 1) cols)) n room next (entry_limit false) (more ∙ ap (λ m. entries_in (take i cols) + m) same) less h
