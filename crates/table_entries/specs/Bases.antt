-- Lists of variables that are a basis, and the exchanges that bring a list in.
use Rattle.std.specs.Prelude.{◌≡◌, ◌≢◌, ℕ, zero, suc, ◌<◌, ◌≤◌, pos, List, length, get_or}
use Rattle.frac128.specs.Rational.{int}
use Rattle.table_entries.specs.Relaxation.{Relaxation, Table, IsTable, IsArranged, Agree, pivoted}
use Rattle.table_entries.specs.Steps.{ExchangeFits}

-- v is one of f 0 .. f (n - 1)
abbrev pub Found : ℕ → (ℕ → ℕ) → ℕ → Type 0
Found n f v = (k : ℕ) × (k < n) × (v ≡ f k)

-- the table of some basis of the relaxation
pub record IsTableOf (p : Relaxation) (d : Table) : Type 0 where
  pub table : IsTable p d
  pub arranged : IsArranged p d

abbrev pub listed : List ℕ → ℕ → ℕ
listed list turn = get_or list turn 0

abbrev pub Lists : List ℕ → ℕ → Type 0
Lists list v = Found (length list) (listed list) v

-- the list names the basic variables of the table, each once, in any order
pub record IsNamedBy (activities : ℕ) (list : List ℕ) (d : Table) : Type 0 where
  pub size : length list ≡ activities
  pub once : (s t : ℕ) → s < length list → t < length list → listed list s ≡ listed list t → s ≡ t
  pub basics : (i : ℕ) → i < activities → Lists list (d.basic i)
  pub names : (t : ℕ) → t < length list → Found activities d.basic (listed list t)

-- there is a table of the relaxation with these basic variables
abbrev pub IsNonsingular : Relaxation → List ℕ → Type 0
IsNonsingular p list = (d : Table) × IsTableOf p d × IsNamedBy p.activities list d

-- ---- bringing a list in

-- the first variable of the list that is not basic has this turn, and stands at this place
pub record IsNextOfList (columns activities : ℕ) (list : List ℕ) (d : Table) (turn place : ℕ) : Type 0 where
  pub turn_within : turn < length list
  pub before : (t : ℕ) → t < turn → Found activities d.basic (listed list t)
  pub not_basic : ¬ (Found activities d.basic (listed list turn))
  pub place_within : place < columns
  pub is : d.nonbasic place ≡ listed list turn

-- the basic variable of the row is not in the list, and has an entry at the place
pub record MayLeave (list : List ℕ) (d : Table) (place row : ℕ) : Type 0 where
  pub unlisted : ¬ (Lists list (d.basic row))
  pub some : d.entry row place ≢ int (pos 0)

-- the exchange that comes next: the first variable of the list that is not basic enters, at the place, for the first basic variable that may leave, in the row
pub record BringsIn (columns activities : ℕ) (list : List ℕ) (d : Table) (row place : ℕ) : Type 0 where
  pub turn : ℕ
  pub next : IsNextOfList columns activities list d turn place
  pub row_within : row < activities
  pub leaves : MayLeave list d place row
  pub first : (i : ℕ) → i < activities → MayLeave list d place i → d.basic row ≤ d.basic i

-- no basic variable may leave for the next of the list
pub record IsStuck (columns activities : ℕ) (list : List ℕ) (d : Table) : Type 0 where
  pub turn : ℕ
  pub place : ℕ
  pub next : IsNextOfList columns activities list d turn place
  pub none : (i : ℕ) → i < activities → ¬ (MayLeave list d place i)

-- n exchanges that bring the list in, each step of which has room, lead from the table d to e
abbrev pub OpenWay : ℕ → ℕ → List ℕ → ℕ → Table → Table → Type 0
OpenWay columns activities list zero d e = Agree columns activities e d
OpenWay columns activities list (suc n) d e =
    (f : Table) × ((row : ℕ) × ((place : ℕ) × (OpenWay columns activities list n d f × BringsIn columns activities list f row place × ExchangeFits columns activities f row place × Agree columns activities e (pivoted f row place))))

-- some exchanges that bring the list in, each step of which has room, lead there
abbrev pub IsOnOpenWay : ℕ → ℕ → List ℕ → Table → Table → Type 0
IsOnOpenWay columns activities list d e = (n : ℕ) × OpenWay columns activities list n d e
