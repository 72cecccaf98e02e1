-- A search that is saved, restored and gone on with.
use Rattle.std.proofs.Common.{◌≡◌, ℕ, List, [], Option, Some, refl, sym, ap, ◌∙◌, subst, cond}
use Rattle.std.specs.Prelude.{IfSome}
use Rattle.std.specs.Cmp.{eq_by_cmp_equiv}
use Rattle.std.specs.Cmp.Lexicographic.{nat_list_cmp_total}
use Rattle.std.specs.FinMap.{insert, get-insert}
use Rattle.sym_io.specs.Files.{Files, file, Sets}
use Rattle.sound_searches.specs.Laws.{HasNoOpenLeaf}
use Rattle.sound_searches.specs.Sound.{PlainSearch, IsSound}
use Rattle.search_file.specs.Files.{IsTextOf}
use Rattle.reply_texts.specs.Texts.{ok_text}
use Rattle.kept_env.specs.Env.{PlainEnv}
use Rattle.command_family.specs.Kinds.{Done}
use Rattle.command_family.specs.State.{ShellState}
use Rattle.command_files.specs.Reading.{HasText}
use Rattle.file_commands.specs.Family.{Saved}
use Rattle.file_commands.specs.Saving.{RestoresTo, RestoresFile}
use Rattle.file_commands.proofs.RestoredLaws.{restored-closed}
use Rattle.sym_shell.specs.Causes.{cause_in}
use Rattle.sym_shell.specs.Kept.{HasSoundSearch, HasClosedSearch}
use Rattle.sym_shell.specs.Laws.{RestoredLaw}

some-is : {A : Type 0} (a b : A) → Some a ≡ Some b → a ≡ b
some-is a b e = cc

-- the file's text is the one that stands there
stands-alone : (files : Option Files) (known : Files) (name text : List ℕ) (P : List ℕ → Type 0) → files ≡ Some known → file known name ≡ Some text → HasText files name P → P text
stands-alone files known name text P told stands has =
    let held : file known name ≡ Some has.text = subst (λ (o : Option Files). IfSome o (λ k. file k name ≡ Some has.text)) told has.held in
    subst P (some-is has.text text (sym held ∙ stands)) has.is

-- what is restored of such a file has no open leaf
pub closed-again : (old : ShellState) (name : List ℕ) (S : PlainSearch) (reply : List ℕ) (new : ShellState) → HasClosedSearch old.files name S → HasSoundSearch new.env → RestoresFile old name reply new → IfSome new.env.search HasNoOpenLeaf
closed-again old name S reply new h kept restored =
    let restores : RestoresTo h.text new.env = stands-alone old.files h.known name h.text (λ text. RestoresTo text new.env) h.told h.stands restored.read in
    let there : new.env.search ≡ Some restores.search = ap (λ (env : PlainEnv). env.search) restores.env_is in
    let made : IsSound restores.search = subst (λ (o : Option PlainSearch). IfSome o IsSound) there kept in
    subst (λ (o : Option PlainSearch). IfSome o HasNoOpenLeaf) (sym there) (restored-closed S restores.search h.text new.env h.sound made h.is restores there h.closed)

-- the file that was put is there
put-there : (known : Files) (name text : List ℕ) → file (insert known name text) name ≡ Some text
put-there known name text =
    get-insert nat_list_cmp_total known name text name
    ∙ ap (λ b. cond b (Some text) (file known name)) ((eq_by_cmp_equiv nat_list_cmp_total).refl name)

restored-search : (old : ShellState) (name : List ℕ) (reply : List ℕ) (new : ShellState) → RestoresFile old name reply new → (T : PlainSearch) × (new.env.search ≡ Some T)
restored-search old name reply new restored = (restored.read.is.search, ap (λ (env : PlainEnv). env.search) restored.read.is.env_is)

pub after-restore : RestoredLaw
after-restore S before saved restored reply after h closed =
    let is_saved : Saved before (λ S. _) = subst (λ a. cause_in a Done before ok_text saved) h.saves (h.is_saved.causes.only Done ([], refl)) in
    let done : RestoresFile saved h.file ok_text restored = subst (λ a. cause_in a Done saved ok_text restored) h.restores (h.is_restored.causes.only Done ([], refl)) in
    let same : is_saved.search ≡ S = some-is is_saved.search S (sym is_saved.present ∙ h.present) in
    let text = is_saved.is.0 in
    let sets = is_saved.is.1 in
    let sound : IsSound S = subst (λ (o : Option PlainSearch). IfSome o IsSound) h.present h.sound in
    let put : saved.files ≡ Some (insert h.known h.file text) = subst (λ (o : Option Files). Sets o saved.files h.file text) h.told sets.2 in
    let filed : HasClosedSearch saved.files h.file S = record {
      known = insert h.known h.file text;
      told = put;
      text = text;
      stands = put-there h.known h.file text;
      is = subst (λ (U : PlainSearch). IsTextOf U text) same sets.0;
      sound = sound;
      closed = closed;
    } in
    let found = restored-search saved h.file ok_text restored done in
    let none : HasNoOpenLeaf found.0 = subst (λ (o : Option PlainSearch). IfSome o HasNoOpenLeaf) found.1 (h.is_restored.restored h.file S h.restores filed refl) in
    (found.0, (found.1, none, h.is_answered.causes.again found.0 h.options h.few h.goes_on found.1))
