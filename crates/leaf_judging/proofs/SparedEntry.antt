-- The entry of a leaf that an edit spares is its entry after it. Of one in which the cost of a column alone is touched, what is kept
-- before that column stands; and of one in which the sides of a row alone are, the totals of its multipliers are moved.
use Rattle.std.specs.Prelude.{◌≡◌, ◌≢◌, ◌↔◌, ℕ, ◌+◌, ◌*◌, ◌<◌, ◌≤◌, ◌/◌, ℤ, Bool, true, false, [], ◌∷◌, length, None, IfSome, Ok, Err}
use Rattle.std.proofs.Common.{refl, sym, ap, subst, ◌∙◌, arith, inl, inr, true≢false}
use Rattle.lp_model.specs.Regions.{Path, IsEmptyRegion}
use Rattle.lp_model.specs.Formulations.{Formulation}
use Rattle.lp_model.specs.declared.types.ColId.{ColId}
use Rattle.lp_model.specs.declared.types.RowId.{RowId}
use Rattle.leaf_dual.specs.Dual.{Multipliers}
use Rattle.leaf_dual.specs.ShortTerms.{AreFewTerms}
use Rattle.leaf_totals.specs.declared.keeping.LeafTotals.{LeafTotals}
use Rattle.leaf_totals.specs.Keeping.{list_question, kept_most, AreKeptTotals, IsEnding, IsSumOfShortTerms}
use Rattle.leaf_totals.specs.Likeness.{AreLikeTo, IsBackBefore, IsBack}
use Rattle.leaf_totals.proofs.BackLemmas.{back_totals}
use Rattle.spared_leaves.specs.declared.touched.Touched.{Touched}
use Rattle.spared_leaves.specs.declared.touched.Touched.TheVariants.{Nothing, RowSides, OneCost}
use Rattle.spared_leaves.specs.Touched.{column_touched, is_apart, leaves_list}
use Rattle.spared_leaves.specs.Alike.{AreAlikeBut, AreAlikeCuts}
use Rattle.spared_leaves.specs.Spared.{IsSpared}
use Rattle.spared_leaves.proofs.LikeAnswers.{like_answers, like_regions, like_farkas_totals, like_cost_totals, farkas-short}
use Rattle.spared_leaves.proofs.MovedSides.{moved_side}
use Rattle.leaf_judging.specs.declared.closing.LeafNumber.{LeafNumber}
use Rattle.leaf_judging.specs.declared.closing.LeafNumber.TheVariants.{Empty, Lag, Wide}
use Rattle.leaf_judging.specs.declared.entry.LeafEntry.{LeafEntry}
use Rattle.leaf_judging.specs.Closing.{IsRefuted, IsSetAside, IsNumber}
use Rattle.leaf_judging.specs.Totals.{AreListTotals, AreFarkasTotals, IsEntryOf, terms_of}
use Rattle.leaf_judging.specs.private.Entries.{IsRenumbered, StaysEmpty, GoesOnFrom, MovesSide}
use Rattle.leaf_judging.specs.private.Ways.{KeepsBlocks}
use Rattle.leaf_judging.proofs.EntryLemmas.{number-is}
use Rattle.leaf_judging.proofs.LikeEntries.{ready-like, complete-like}

-- ---- numbers

module _ (F G : Formulation) (path : Path) (mult : Multipliers) where
  refuted-spared : (farkas : Multipliers) → IsSpared F G path mult farkas → IsRefuted F path farkas ↔ IsRefuted G path farkas
  refuted-spared [] s = ((λ h. h), (λ h. h))
  refuted-spared (m ∷ ms) s = (
    (λ (v, (answer, positive)). (v, ((s.refuting (Ok v)).0 answer, positive))),
    (λ (v, (answer, positive)). (v, ((s.refuting (Ok v)).1 answer, positive))),
  )

  aside-spared : (farkas : Multipliers) → IsSpared F G path mult farkas → IsSetAside F path farkas ↔ IsSetAside G path farkas
  aside-spared farkas s = (
    (λ aside. elim aside [ inl empty ↦ inl (s.empty.0 empty) | inr refuted ↦ inr ((refuted-spared farkas s).0 refuted) ]),
    (λ aside. elim aside [ inl empty ↦ inl (s.empty.1 empty) | inr refuted ↦ inr ((refuted-spared farkas s).1 refuted) ]),
  )

  number-spared : (farkas : Multipliers) → IsSpared F G path mult farkas → (n : LeafNumber) → IsNumber F path mult farkas n → IsNumber G path mult farkas n
  number-spared farkas s Empty aside = (aside-spared farkas s).0 aside
  number-spared farkas s (Lag v) h = ((λ aside. h.0 ((aside-spared farkas s).1 aside)), (s.lag (Ok v)).0 h.1)
  number-spared farkas s (Wide step) h = ((λ aside. h.0 ((aside-spared farkas s).1 aside)), (s.lag (Err step)).0 h.1)

-- ---- totals

module _ (F G : Formulation) (path : Path) (blocks : KeepsBlocks F.model G.model) where
  totals-spared : (mult : Multipliers) (costed : Bool) (t : LeafTotals) → AreLikeTo (length F.model.cols) (list_question F path mult costed) (list_question G path mult costed)
      → ((over : ℤ) → IsSumOfShortTerms (list_question F path mult costed) t over → IsSumOfShortTerms (list_question G path mult costed) t over) → AreListTotals F path mult costed t → AreListTotals G path mult costed t
  totals-spared mult costed t like short h = record {
    ready = ready-like (list_question F path mult costed) (list_question G path mult costed) blocks.1 like t short h.ready;
    room = subst (λ n. n ≤ t.totals.room) (ap (λ n. n + 2) blocks.1) h.room;
  }

  farkas-spared : (mult farkas : Multipliers) (t : LeafTotals) → IsEmptyRegion F.model path ↔ IsEmptyRegion G.model path → AreLikeTo (length F.model.cols) (list_question F path farkas false) (list_question G path farkas false)
      → ((over : ℤ) → IsSumOfShortTerms (list_question F path farkas false) t over → IsSumOfShortTerms (list_question G path farkas false) t over) → AreFarkasTotals F path farkas t → AreFarkasTotals G path farkas t
  farkas-spared mult [] t empty like short h = h
  farkas-spared mult (m ∷ ms) t empty like short h = (
    totals-spared (m ∷ ms) false t like short h.0,
    λ some. complete-like (list_question F path (m ∷ ms) false) (list_question G path (m ∷ ms) false) blocks.1 like t (h.1 (λ e. some (empty.0 e))),
  )

  pub entry-spared : (mult farkas : Multipliers) → IsSpared F G path mult farkas → (e : LeafEntry) → IsEntryOf F path mult farkas e → IsEntryOf G path mult farkas e
  entry-spared mult farkas s e h = record {
    number = number-spared F G path mult farkas s e.number h.number;
    lag = totals-spared mult true e.lag (s.lag_totals blocks.0) (s.lag_short blocks.0 blocks.1 e.lag) h.lag;
    refuting = farkas-spared mult farkas e.farkas s.empty (s.farkas_totals blocks.0) (s.farkas_short blocks.0 blocks.1 e.farkas) h.refuting;
    complete = λ some. complete-like (list_question F path mult true) (list_question G path mult true) blocks.1 (s.lag_totals blocks.0) e.lag (h.complete some);
  }

-- ---- no column is touched but its cost, and the Farkas multipliers name nothing that is

module _ (t : Touched) (no_column : column_touched t ≡ None) (F G : Formulation) (path : Path) (mult farkas : Multipliers) (alike : AreAlikeBut t F.model G.model) (alike_cuts : AreAlikeCuts F.cuts G.cuts)
    (left_farkas : leaves_list t F.cuts G.cuts farkas ≡ true) (count : length F.model.cols ≡ length G.model.cols) (e : LeafEntry) (h : IsEntryOf F path mult farkas e) where
  none-apart : (j : ℕ) → is_apart (column_touched t) j ≢ false
  none-apart j touched = true≢false (ap (λ o. is_apart o j) (sym no_column) ∙ touched)

  empty-after : IsEmptyRegion F.model path ↔ IsEmptyRegion G.model path
  empty-after = like_regions t F.model G.model path alike (λ j touched. absurd (none-apart j touched))

  refuted-after : (list : Multipliers) → leaves_list t F.cuts G.cuts list ≡ true → IsRefuted F path list ↔ IsRefuted G path list
  refuted-after [] l = ((λ r. r), (λ r. r))
  refuted-after (m ∷ ms) l = (
    (λ (v, (answer, positive)). (v, (((like_answers t F.model G.model F.cuts G.cuts alike alike_cuts path (m ∷ ms) l (Ok v)).1 (λ j touched. absurd (none-apart j touched))).0 answer, positive))),
    (λ (v, (answer, positive)). (v, (((like_answers t F.model G.model F.cuts G.cuts alike alike_cuts path (m ∷ ms) l (Ok v)).1 (λ j touched. absurd (none-apart j touched))).1 answer, positive))),
  )

  aside-after : IsSetAside F path farkas ↔ IsSetAside G path farkas
  aside-after = (
    (λ aside. elim aside [ inl empty ↦ inl (empty-after.0 empty) | inr refuted ↦ inr ((refuted-after farkas left_farkas).0 refuted) ]),
    (λ aside. elim aside [ inl empty ↦ inl (empty-after.1 empty) | inr refuted ↦ inr ((refuted-after farkas left_farkas).1 refuted) ]),
  )

  blocks-after : KeepsBlocks F.model G.model
  blocks-after = (omega (arith, count), ap (λ n. n / 64) count)

  farkas-after : AreFarkasTotals G path farkas e.farkas
  farkas-after =
      farkas-spared F G path blocks-after mult farkas e.farkas empty-after
      (like_farkas_totals t F.model G.model F.cuts G.cuts alike alike_cuts path farkas left_farkas (λ j touched. absurd (none-apart j touched)) (omega (arith, count)))
      (farkas-short t F.model G.model F.cuts G.cuts alike alike_cuts path farkas left_farkas (λ j touched. absurd (none-apart j touched)) blocks-after.0 blocks-after.1 e.farkas) h.refuting

  room-kept : kept_most (list_question G path mult true) ≤ e.lag.totals.room
  room-kept = subst (λ n. n ≤ e.lag.totals.room) (ap (λ n. n / 64 + 2) count) h.lag.room

  not-aside : (n : LeafNumber) → n ≢ Empty → IsNumber F path mult farkas n → ¬ IsSetAside F path farkas
  not-aside Empty some is = absurd (some refl)
  not-aside (Lag v) some is = is.0
  not-aside (Wide step) some is = is.0

  renumbered : (new : LeafEntry) → e.number ≢ Empty → IsRenumbered G path mult e new → IsEntryOf G path mult farkas new
  renumbered new some on = record {
    number = number-is G path mult farkas new.number (λ aside. not-aside e.number some h.number (aside-after.1 aside)) on.number;
    lag = on.lag;
    refuting = subst (AreFarkasTotals G path farkas) (sym on.farkas) farkas-after;
    complete = λ s. on.complete;
  }

  stays-empty : (new : LeafEntry) → e.number ≡ Empty → StaysEmpty e new → IsEntryOf G path mult farkas new
  stays-empty new empty stays = record {
    number = subst (IsNumber G path mult farkas) (sym stays.number) (aside-after.0 (subst (IsNumber F path mult farkas) empty h.number));
    lag = record {
      ready = record {
        are = record {
          kept = subst (AreKeptTotals (list_question G path mult true)) (sym stays.lag.kept) tt;
          few = let none = ap length stays.lag.kept in omega (arith, none);
          ending = subst (IsEnding (list_question G path mult true)) (sym stays.lag.ending) tt;
          over = subst (λ o. IfSome o (IsSumOfShortTerms (list_question G path mult true) new.lag)) (sym stays.lag.over) tt;
        };
        ended = λ some. absurd (some stays.lag.ending);
      };
      room = subst (λ n. kept_most (list_question G path mult true) ≤ n) (sym stays.lag.room) room-kept;
    };
    refuting = subst (AreFarkasTotals G path farkas) (sym stays.farkas) farkas-after;
    complete = λ some. absurd (some stays.number);
  }

  -- an empty one stays so, and another one has the number that its multipliers say
  after : (new : LeafEntry) → GoesOnFrom G path mult e new → IsEntryOf G path mult farkas new
  after new went = by e.number refl
    where
      by : (n : LeafNumber) → e.number ≡ n → IsEntryOf G path mult farkas new
      by Empty is = stays-empty new is (went.empty is)
      by (Lag v) is = let some : e.number ≢ Empty = λ none. let f = sym is ∙ none in cc in renumbered new some (went.other some)
      by (Wide step) is = let some : e.number ≢ Empty = λ none. let f = sym is ∙ none in cc in renumbered new some (went.other some)

-- ---- another cost of a column

module _ (col : ColId) (F G : Formulation) (path : Path) (mult farkas : Multipliers) (alike : AreAlikeBut (OneCost col) F.model G.model) (alike_cuts : AreAlikeCuts F.cuts G.cuts)
    (left : leaves_list (OneCost col) F.cuts G.cuts mult ≡ true) (left_farkas : leaves_list (OneCost col) F.cuts G.cuts farkas ≡ true) (within : col.0 < length F.model.cols) (count : length F.model.cols ≡ length G.model.cols) (e : LeafEntry) (h : IsEntryOf F path mult farkas e) where
  like-after : AreLikeTo col.0 (list_question F path mult true) (list_question G path mult true)
  like-after = like_cost_totals col F.model G.model F.cuts G.cuts alike alike_cuts path mult left (omega (arith, within)) (omega (arith, count))

  -- back before the column all that is kept is so
  pub back-after : e.number ≢ Empty → (t : LeafTotals) → IsBackBefore col.0 e.lag t → IsBack col.0 (list_question G path mult true) t
  back-after some t back = back_totals col.0 (list_question F path mult true) (list_question G path mult true) e.lag t like-after h.lag.ready.are (h.complete some) back

  pub room-after : kept_most (list_question G path mult true) ≤ e.lag.totals.room
  room-after = room-kept (OneCost col) refl F G path mult farkas alike alike_cuts left_farkas count e h

  -- what is gone on with is the entry after it
  pub entry-after : (new : LeafEntry) → GoesOnFrom G path mult e new → IsEntryOf G path mult farkas new
  entry-after = after (OneCost col) refl F G path mult farkas alike alike_cuts left_farkas count e h

-- ---- another side of a row

module _ (row : RowId) (F G : Formulation) (path : Path) (mult farkas : Multipliers) (alike : AreAlikeBut (RowSides row) F.model G.model) (alike_cuts : AreAlikeCuts F.cuts G.cuts) (left : leaves_list Nothing F.cuts G.cuts mult ≡ true)
    (left_farkas : leaves_list (RowSides row) F.cuts G.cuts farkas ≡ true) (within : row.0 < length F.model.rows) (rows : length F.model.rows ≡ length G.model.rows) (cuts : length F.cuts ≡ length G.cuts) (count : length F.model.cols ≡ length G.model.cols)
    (few : AreFewTerms G) (e : LeafEntry) (h : IsEntryOf F path mult farkas e) where
  moved-number : (new : LeafEntry) → e.number ≢ Empty → MovesSide row.0 F.model G.model mult e new → IsRenumbered G path mult e new
  moved-number new some moves =
      let lag = moves.other some F.cuts G.cuts path (moved_side row F.model G.model F.cuts G.cuts alike alike_cuts rows cuts count path mult true left within) few h.lag.ready.are in
      record {
        number = lag.0;
        lag = record {
          ready = record { are = lag.1.0; ended = λ ended. lag.1.1 };
          room = subst (λ n. kept_most (list_question G path mult true) ≤ n) (sym moves.room) (room-kept (RowSides row) refl F G path mult farkas alike alike_cuts left_farkas count e h);
        };
        complete = lag.1.1;
        farkas = moves.farkas;
      }

  -- what is moved is the entry after it
  pub entry-moved : (new : LeafEntry) → MovesSide row.0 F.model G.model mult e new → IsEntryOf G path mult farkas new
  entry-moved new moves = after (RowSides row) refl F G path mult farkas alike alike_cuts left_farkas count e h new (record { empty = moves.empty; other = λ some. moved-number new some moves })

  -- in no more steps than all its terms
  pub moved-few : 0 < length G.model.cols → length e.lag.totals.kept + 1 ≤ 2 * terms_of G
  moved-few some = let most = h.lag.ready.are.few in omega (arith, most, some, within, rows, count)
