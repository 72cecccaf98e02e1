-- Where reading entry by entry comes to, and what stands there: a first fault, a whole text, or a text that is cut.
use Rattle.std.proofs.Common.{◌≡◌, ℕ, Bool, true, false, List, [], ◌∷◌, ◌++◌, map, refl, sym, ◌∙◌, ap, subst, append_assoc}
use Rattle.std.specs.Prelude.{Option, None, Some, Ok, Err}
use Rattle.mps_text.specs.Text.{Entry, Flaw, Item}
use Rattle.mps_sections.specs.Faults.{code_at, Clean, IsFlawed, HasFault, IsWholeText, IsCut, End, Flawed, Whole, Cut, past, reached}
use Rattle.mps_fields.specs.Fields.{is_end}

nil_right : (es : List Entry) → es ++ [] ≡ es
nil_right [] = refl
nil_right (e ∷ es) = ap (λ more. e ∷ more) (nil_right es)

along : (seen more : List Entry) (e : Entry) → (seen ++ e ∷ []) ++ more ≡ seen ++ e ∷ more
along seen more e = append_assoc seen (e ∷ []) more

-- past a clean entry
past-clean : (seen : List Entry) (e : Entry) (behind : End) → code_at seen e ≡ None → is_end e ≡ false → past (code_at seen e) (is_end e) seen e behind ≡ behind
past-clean seen e behind c d = ap (λ code. past code (is_end e) seen e behind) c ∙ ap (λ b. past None b seen e behind) d

flawed-here : (seen : List Entry) (item : Item) (after : List Item) (flaw : Flaw) → IsFlawed seen item flaw → reached seen (item ∷ after) ≡ Flawed flaw
unfolding reached
flawed-here seen (Ok e) after flaw h = ap (λ code. past code (is_end e) seen e (reached (seen ++ e ∷ []) after)) h.0 ∙ ap (λ n. Flawed (record { line = n; code = flaw.code })) (sym h.1)
flawed-here seen (Err own) after flaw h = ap Flawed (sym h)

reached-flaw : (seen before : List Entry) (item : Item) (after : List Item) (flaw : Flaw) → Clean seen before → IsFlawed (seen ++ before) item flaw → reached seen (map Ok before ++ item ∷ after) ≡ Flawed flaw
unfolding reached
reached-flaw seen [] item after flaw clean h = flawed-here seen item after flaw (subst (λ (es : List Entry). IsFlawed es item flaw) (nil_right seen) h)
reached-flaw seen (e ∷ more) item after flaw clean h =
    past-clean seen e (reached (seen ++ e ∷ []) (map Ok more ++ item ∷ after)) clean.0 clean.1
    ∙ reached-flaw (seen ++ e ∷ []) more item after flaw clean.2 (subst (λ (es : List Entry). IsFlawed es item flaw) (sym (along seen more e)) h)

whole-here : (seen : List Entry) (e : Entry) (after : List Item) → code_at seen e ≡ None → is_end e ≡ true → reached seen (Ok e ∷ after) ≡ Whole (seen ++ e ∷ [])
unfolding reached
whole-here seen e after c d = ap (λ code. past code (is_end e) seen e (reached (seen ++ e ∷ []) after)) c ∙ ap (λ b. past None b seen e (reached (seen ++ e ∷ []) after)) d

reached-whole : (seen before : List Entry) (last : Entry) (after : List Item) → Clean seen before → code_at (seen ++ before) last ≡ None → is_end last ≡ true → reached seen (map Ok before ++ Ok last ∷ after) ≡ Whole (seen ++ before ++ last ∷ [])
unfolding reached
reached-whole seen [] last after clean c d =
    whole-here seen last after (subst (λ (es : List Entry). code_at es last ≡ None) (nil_right seen) c) d ∙ ap (λ (es : List Entry). Whole (es ++ last ∷ [])) (sym (nil_right seen))
reached-whole seen (e ∷ more) last after clean c d =
    past-clean seen e (reached (seen ++ e ∷ []) (map Ok more ++ Ok last ∷ after)) clean.0 clean.1
    ∙ reached-whole (seen ++ e ∷ []) more last after clean.2 (subst (λ (es : List Entry). code_at es last ≡ None) (sym (along seen more e)) c) d
    ∙ ap (λ (es : List Entry). Whole (es ++ last ∷ [])) (along seen more e)

reached-cut : (seen before : List Entry) → Clean seen before → reached seen (map Ok before) ≡ Cut
unfolding reached
reached-cut seen [] clean = refl
reached-cut seen (e ∷ more) clean = past-clean seen e (reached (seen ++ e ∷ []) (map Ok more)) clean.0 clean.1 ∙ reached-cut (seen ++ e ∷ []) more clean.2

pub HasFault-reached : (seen : List Entry) (items : List Item) (flaw : Flaw) → HasFault seen items flaw → reached seen items ≡ Flawed flaw
HasFault-reached seen items flaw h = ap (reached seen) h.parts ∙ reached-flaw seen h.before h.item h.after flaw h.clean h.flawed

pub IsWhole-reached : (seen : List Entry) (items : List Item) (entries : List Entry) → IsWholeText seen items entries → reached seen items ≡ Whole entries
IsWhole-reached seen items entries h = ap (reached seen) h.parts ∙ reached-whole seen h.before h.last h.after h.clean h.clean_last h.ended ∙ ap Whole (sym h.all)

pub IsCut-reached : (seen : List Entry) (items : List Item) → IsCut seen items → reached seen items ≡ Cut
IsCut-reached seen items h = ap (reached seen) h.parts ∙ reached-cut seen h.before h.clean

-- what stands behind each end
Found : List Entry → List Item → End → Type 0
Found seen items (Flawed flaw) = HasFault seen items flaw
Found seen items (Whole entries) = IsWholeText seen items entries
Found seen items Cut = IsCut seen items

Found-more : (seen : List Entry) (e : Entry) (items : List Item) (end : End) → code_at seen e ≡ None → is_end e ≡ false → Found (seen ++ e ∷ []) items end → Found seen (Ok e ∷ items) end
unfolding Found
Found-more seen e items (Flawed flaw) c d h = record {
  before = e ∷ h.before;
  item = h.item;
  after = h.after;
  parts = ap (λ more. Ok e ∷ more) h.parts;
  clean = (c, d, h.clean);
  flawed = subst (λ (es : List Entry). IsFlawed es h.item flaw) (along seen h.before e) h.flawed;
}
Found-more seen e items (Whole entries) c d h = record {
  before = e ∷ h.before;
  last = h.last;
  after = h.after;
  parts = ap (λ more. Ok e ∷ more) h.parts;
  clean = (c, d, h.clean);
  clean_last = subst (λ (es : List Entry). code_at es h.last ≡ None) (along seen h.before e) h.clean_last;
  ended = h.ended;
  all = h.all ∙ ap (λ (es : List Entry). es ++ h.last ∷ []) (along seen h.before e);
}
Found-more seen e items Cut c d h = record { before = e ∷ h.before; parts = ap (λ more. Ok e ∷ more) h.parts; clean = (c, d, h.clean) }

Found-past : (code : Option ℕ) (ended : Bool) (seen : List Entry) (e : Entry) (items : List Item) (end : End) → code_at seen e ≡ code → is_end e ≡ ended → Found (seen ++ e ∷ []) items end → Found seen (Ok e ∷ items) (past code ended seen e end)
unfolding Found
Found-past (Some code) ended seen e items end c d h = record {
  before = [];
  item = Ok e;
  after = items;
  parts = refl;
  clean = tt;
  flawed = (ap (λ (es : List Entry). code_at es e) (nil_right seen) ∙ c, refl);
}
Found-past None true seen e items end c d h = record {
  before = [];
  last = e;
  after = items;
  parts = refl;
  clean = tt;
  clean_last = ap (λ (es : List Entry). code_at es e) (nil_right seen) ∙ c;
  ended = d;
  all = ap (λ (es : List Entry). es ++ e ∷ []) (sym (nil_right seen));
}
Found-past None false seen e items end c d h = Found-more seen e items end c d h

found : (seen : List Entry) (items : List Item) → Found seen items (reached seen items)
unfolding Found reached
found seen [] = record { before = []; parts = refl; clean = tt }
found seen (Ok e ∷ more) = Found-past (code_at seen e) (is_end e) seen e more (reached (seen ++ e ∷ []) more) refl refl (found (seen ++ e ∷ []) more)
found seen (Err flaw ∷ more) = record { before = []; item = Err flaw; after = more; parts = refl; clean = tt; flawed = refl }

pub flawed-same : (a b : Flaw) → Flawed a ≡ Flawed b → a ≡ b
flawed-same a b h = cc

pub whole-same : (a b : List Entry) → Whole a ≡ Whole b → a ≡ b
whole-same a b h = cc

-- what stands behind where reading comes to
pub fault_from : (items : List Item) (flaw : Flaw) → reached [] items ≡ Flawed flaw → HasFault [] items flaw
unfolding Found
fault_from items flaw e = let P : End → Type 0 = λ end. Found [] items end in subst P e (found [] items)

pub whole_from : (items : List Item) (entries : List Entry) → reached [] items ≡ Whole entries → IsWholeText [] items entries
unfolding Found
whole_from items entries e = let P : End → Type 0 = λ end. Found [] items end in subst P e (found [] items)

pub cut_from : (items : List Item) → reached [] items ≡ Cut → IsCut [] items
unfolding Found
cut_from items e = let P : End → Type 0 = λ end. Found [] items end in subst P e (found [] items)

pub whole_unique : (items : List Item) (a b : List Entry) → IsWholeText [] items a → IsWholeText [] items b → a ≡ b
whole_unique items a b h k = whole-same a b (sym (IsWhole-reached [] items a h) ∙ IsWhole-reached [] items b k)
