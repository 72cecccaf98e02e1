-- What `clap` makes of `bench` and four numbers in decimal digits.
use Rattle.std.proofs.Common.{◌≡◌, ℕ, List, [], ◌∷◌, ◌<◌, ◌^◌, refl, ◌∙◌, ap, ap₂, true, false, if◌then◌else◌, codes, Some, arith}
use Rattle.std.specs.Prelude.{find, unwrap_or, decimal, String}
use Rattle.std.specs.String.{string_bytes}
use Rattle.std.specs.declared.alloc.Global.{Global}
use Rattle.clap.specs.Walk.{Text, Walk, answers_to, arg_by_index, finished, nothing_held, settled, to_positional, walk, walk_from, walked}
use Rattle.clap.specs.Simple.{Shape, built, label_of, new_shape, subcommand_of}
use Rattle.clap.specs.Kinds.{Kinds, or_else, value_kinds}
use Rattle.clap.specs.Faults.{check_fault, defaults_fault, fault_of, level_fault, settle_fault, turn_fault, walk_fault}
use Rattle.clap.specs.Values.{refused_kind}
use Rattle.clap.specs.ValueTests.{accepts}
use Rattle.clap.specs.declared.builder.value_parser.ValueParser.{ValueParser}
use Rattle.clap.specs.declared.builder.value_parser.ValueParser.TheVariants.{Unsigned}
use Rattle.clap.proofs.OnLiterals.{clap_on_literals}
use Rattle.program_words.specs.Forms.{Bench, TakesWords, asked_by, asked_form, spelled_or_zero, symphony}
use Rattle.program_words.specs.Laws.{AreBenchNumbers, AsksBench, BenchLaw}
use Rattle.program_words.proofs.NumberLemmas.{decimal-plain, decimal-accepted, decimal-spelled}
use Rattle.program_words.proofs.PlainLemmas.{IsNoFlag, between, no_flag, walked_on, turned_on}

-- `bench` as it is built
abbrev bench_built : Shape
bench_built = unwrap_or (find (λ s. answers_to (codes "bench") (label_of s)) (built symphony).subs) (new_shape [])

abbrev max : ℕ
max = 18446744073709551615

-- the walk after each of the words
abbrev after_seed : Text → Walk
after_seed seed = to_positional bench_built.rules (arg_by_index bench_built.rules 1) seed (between nothing_held 1) nothing_held

abbrev after_rows : Text → Text → Walk
after_rows seed rows = to_positional bench_built.rules (arg_by_index bench_built.rules 2) rows (after_seed seed) (after_seed seed).held

abbrev after_cols : Text → Text → Text → Walk
after_cols seed rows cols = to_positional bench_built.rules (arg_by_index bench_built.rules 3) cols (after_rows seed rows) (after_rows seed rows).held

abbrev after_nodes : Text → Text → Text → Text → Walk
after_nodes seed rows cols nodes = to_positional bench_built.rules (arg_by_index bench_built.rules 4) nodes (after_cols seed rows cols) (after_cols seed rows cols).held

-- a value that passes
passes : (p : ValueParser) (v : Text) → accepts false p v ≡ true → value_kinds false p v ≡ []
passes p v e = ap (λ b. if b then [] else refused_kind p ∷ []) e

-- four words that begin with another byte than `-` and pass
pub record ArePassed (seed rows cols nodes : Text) : Type 0 where
  pub seed_plain : IsNoFlag seed
  pub rows_plain : IsNoFlag rows
  pub cols_plain : IsNoFlag cols
  pub nodes_plain : IsNoFlag nodes
  pub seed_passes : accepts false (Unsigned 0 max) seed ≡ true
  pub rows_passes : accepts false (Unsigned 1 100) rows ≡ true
  pub cols_passes : accepts false (Unsigned 1 40) cols ≡ true
  pub nodes_passes : accepts false (Unsigned 0 max) nodes ≡ true

module _ (seed rows cols nodes : Text) (h : ArePassed seed rows cols nodes) where
  -- no fault where the pending word is settled
  seed_settled : settle_fault bench_built.rules bench_built.args_override_self (after_seed seed).held ≡ []
  unfolding clap_on_literals
  seed_settled = ap (λ (k : Kinds). or_else k []) (passes (Unsigned 0 max) seed h.seed_passes)

  rows_settled : settle_fault bench_built.rules bench_built.args_override_self (after_rows seed rows).held ≡ []
  unfolding clap_on_literals
  rows_settled = ap (λ (k : Kinds). or_else k []) (passes (Unsigned 1 100) rows h.rows_passes)

  cols_settled : settle_fault bench_built.rules bench_built.args_override_self (after_cols seed rows cols).held ≡ []
  unfolding clap_on_literals
  cols_settled = ap (λ (k : Kinds). or_else k []) (passes (Unsigned 1 40) cols h.cols_passes)

  nodes_settled : settle_fault bench_built.rules bench_built.args_override_self (after_nodes seed rows cols nodes).held ≡ []
  unfolding clap_on_literals
  nodes_settled = ap (λ (k : Kinds). or_else k []) (passes (Unsigned 0 max) nodes h.nodes_passes)

  -- the walk over the words
  walk_one : walked bench_built.rules [] (walk_from nothing_held) seed ≡ after_seed seed
  walk_one = walked_on bench_built.rules nothing_held 1 seed h.seed_plain

  walk_two : walked bench_built.rules [] (after_seed seed) rows ≡ after_rows seed rows
  unfolding clap_on_literals
  walk_two = walked_on bench_built.rules (after_seed seed).held 2 rows h.rows_plain

  walk_three : walked bench_built.rules [] (after_rows seed rows) cols ≡ after_cols seed rows cols
  unfolding clap_on_literals
  walk_three = walked_on bench_built.rules (after_rows seed rows).held 3 cols h.cols_plain

  walk_four : walked bench_built.rules [] (after_cols seed rows cols) nodes ≡ after_nodes seed rows cols nodes
  unfolding clap_on_literals
  walk_four = walked_on bench_built.rules (after_cols seed rows cols).held 4 nodes h.nodes_plain

  walk_is : walk bench_built.rules [] nothing_held (seed ∷ rows ∷ cols ∷ nodes ∷ []) ≡ after_nodes seed rows cols nodes
  walk_is =
      ap (λ (w : Walk). walked bench_built.rules [] (walked bench_built.rules [] (walked bench_built.rules [] w rows) cols) nodes) walk_one
      ∙ ap (λ (w : Walk). walked bench_built.rules [] (walked bench_built.rules [] w cols) nodes) walk_two
      ∙ ap (λ (w : Walk). walked bench_built.rules [] w nodes) walk_three
      ∙ walk_four

  -- no word has a fault
  turn_one : turn_fault bench_built [] (walk_from nothing_held) seed ≡ []
  unfolding clap_on_literals
  turn_one = turned_on bench_built nothing_held 1 seed h.seed_plain

  turn_two : turn_fault bench_built [] (after_seed seed) rows ≡ []
  unfolding clap_on_literals
  turn_two = turned_on bench_built (after_seed seed).held 2 rows h.rows_plain ∙ seed_settled

  turn_three : turn_fault bench_built [] (after_rows seed rows) cols ≡ []
  unfolding clap_on_literals
  turn_three = turned_on bench_built (after_rows seed rows).held 3 cols h.cols_plain ∙ rows_settled

  turn_four : turn_fault bench_built [] (after_cols seed rows cols) nodes ≡ []
  unfolding clap_on_literals
  turn_four = turned_on bench_built (after_cols seed rows cols).held 4 nodes h.nodes_plain ∙ cols_settled

  -- the faults of the words from one on, where it has none and the walk behind it is known
  fault_on : (w v : Walk) (word : Text) (rest : List Text) → turn_fault bench_built [] w word ≡ [] → walked bench_built.rules [] w word ≡ v → walk_fault bench_built [] v rest ≡ [] → walk_fault bench_built [] w (word ∷ rest) ≡ []
  unfolding walk_fault
  fault_on w v word rest none next later = ap₂ or_else none (ap (λ (u : Walk). walk_fault bench_built [] u rest) next ∙ later)

  no_more : (w : Walk) → walk_fault bench_built [] w [] ≡ []
  unfolding walk_fault
  no_more w = refl

  faults_are : walk_fault bench_built [] (walk_from nothing_held) (seed ∷ rows ∷ cols ∷ nodes ∷ []) ≡ []
  faults_are =
      fault_on (walk_from nothing_held) (after_seed seed) seed (rows ∷ cols ∷ nodes ∷ []) turn_one walk_one
      (fault_on (after_seed seed) (after_rows seed rows) rows (cols ∷ nodes ∷ []) turn_two walk_two
      (fault_on (after_rows seed rows) (after_cols seed rows cols) cols (nodes ∷ []) turn_three walk_three
      (fault_on (after_cols seed rows cols) (after_nodes seed rows cols nodes) nodes [] turn_four walk_four (no_more (after_nodes seed rows cols nodes)))))

  -- what is left to look at behind the words
  abbrev at_end : Kinds → Kinds → Walk → Kinds
  at_end faults settles w =
      or_else faults
      (or_else settles (or_else (defaults_fault (settled bench_built.rules w.held).rows bench_built.rules) (check_fault bench_built (finished bench_built.rules w.held) false)))

  end_is : at_end [] [] (after_nodes seed rows cols nodes) ≡ []
  unfolding clap_on_literals
  end_is = refl

  below_is : level_fault bench_built [] nothing_held (seed ∷ rows ∷ cols ∷ nodes ∷ []) false [] ≡ []
  below_is =
      ap₂ (λ (faults : Kinds) (w : Walk). at_end faults (settle_fault bench_built.rules bench_built.args_override_self w.held) w) faults_are walk_is
      ∙ ap (λ (settles : Kinds). at_end [] settles (after_nodes seed rows cols nodes)) nodes_settled
      ∙ end_is

  bench_alone : (name : Text) → fault_of symphony (name ∷ codes "bench" ∷ seed ∷ rows ∷ cols ∷ nodes ∷ []) ≡ []
  unfolding clap_on_literals
  bench_alone name = ap (λ (below : Kinds). or_else below []) below_is

  bench_asks : (name : Text) → asked_by (subcommand_of symphony (name ∷ codes "bench" ∷ seed ∷ rows ∷ cols ∷ nodes ∷ [])) ≡ Bench (spelled_or_zero seed) (spelled_or_zero rows) (spelled_or_zero cols) (spelled_or_zero nodes)
  unfolding clap_on_literals
  bench_asks name = ap (λ (w : Walk). asked_by (Some (codes "bench", finished bench_built.rules w.held))) walk_is

-- ---- the law

passed : (seed rows cols nodes : ℕ) → AreBenchNumbers seed rows cols nodes → ArePassed (decimal seed) (decimal rows) (decimal cols) (decimal nodes)
passed seed rows cols nodes h =
    let rows_are : rows < 2 ^ 64 = omega (arith, h.few_rows) in
    let cols_are : cols < 2 ^ 64 = omega (arith, h.few_cols) in
    record {
      seed_plain = no_flag (decimal seed) (decimal-plain seed h.seed_is);
      rows_plain = no_flag (decimal rows) (decimal-plain rows rows_are);
      cols_plain = no_flag (decimal cols) (decimal-plain cols cols_are);
      nodes_plain = no_flag (decimal nodes) (decimal-plain nodes h.nodes_are);
      seed_passes = decimal-accepted 0 max seed (omega arith) (omega (arith, h.seed_is)) h.seed_is;
      rows_passes = decimal-accepted 1 100 rows h.some_rows h.few_rows rows_are;
      cols_passes = decimal-accepted 1 40 cols h.some_cols h.few_cols cols_are;
      nodes_passes = decimal-accepted 0 max nodes (omega arith) (omega (arith, h.nodes_are)) h.nodes_are;
    }

-- the words behind the program's name
abbrev behind : Text → Text → Text → Text → Text → Text → List Text
behind name word seed rows cols nodes = name ∷ word ∷ seed ∷ rows ∷ cols ∷ nodes ∷ []

words_are : (name word first second third fourth : Text) (seed rows cols nodes : ℕ) → word ≡ codes "bench" → first ≡ decimal seed → second ≡ decimal rows → third ≡ decimal cols → fourth ≡ decimal nodes
    → behind name word first second third fourth ≡ behind name (codes "bench") (decimal seed) (decimal rows) (decimal cols) (decimal nodes)
words_are name word first second third fourth seed rows cols nodes e f g h k = λ i. behind name (e i) (f i) (g i) (h i) (k i)

numbers_are : (seed rows cols nodes : ℕ) → AreBenchNumbers seed rows cols nodes → Bench (spelled_or_zero (decimal seed)) (spelled_or_zero (decimal rows)) (spelled_or_zero (decimal cols)) (spelled_or_zero (decimal nodes)) ≡ Bench seed rows cols nodes
numbers_are seed rows cols nodes h =
    let rows_are : rows < 2 ^ 64 = omega (arith, h.few_rows) in
    let cols_are : cols < 2 ^ 64 = omega (arith, h.few_cols) in
    let e = decimal-spelled seed h.seed_is in
    let f = decimal-spelled rows rows_are in
    let g = decimal-spelled cols cols_are in
    let k = decimal-spelled nodes h.nodes_are in
    λ i. Bench (e i) (f i) (g i) (k i)

bench_form : (name word first second third fourth : String Global) (seed rows cols nodes : ℕ) → string_bytes word ≡ codes "bench" → string_bytes first ≡ decimal seed → string_bytes second ≡ decimal rows
    → string_bytes third ≡ decimal cols → string_bytes fourth ≡ decimal nodes → AreBenchNumbers seed rows cols nodes → AsksBench (name ∷ word ∷ first ∷ second ∷ third ∷ fourth ∷ []) seed rows cols nodes
unfolding TakesWords asked_form
bench_form name word first second third fourth seed rows cols nodes e f g h k numbers =
    let texts = words_are (string_bytes name) (string_bytes word) (string_bytes first) (string_bytes second) (string_bytes third) (string_bytes fourth) seed rows cols nodes e f g h k in
    let passes = passed seed rows cols nodes numbers in
    record {
      taken = ap (fault_of symphony) texts ∙ bench_alone (decimal seed) (decimal rows) (decimal cols) (decimal nodes) passes (string_bytes name);
      bench =
          ap (λ (words : List Text). asked_by (subcommand_of symphony words)) texts ∙ bench_asks (decimal seed) (decimal rows) (decimal cols) (decimal nodes) passes (string_bytes name)
          ∙ numbers_are seed rows cols nodes numbers;
    }

pub bench_law : BenchLaw
bench_law [] seed rows cols nodes form = absurd form
bench_law (name ∷ []) seed rows cols nodes form = absurd form
bench_law (name ∷ word ∷ []) seed rows cols nodes form = absurd form
bench_law (name ∷ word ∷ first ∷ []) seed rows cols nodes form = absurd form
bench_law (name ∷ word ∷ first ∷ second ∷ []) seed rows cols nodes form = absurd form
bench_law (name ∷ word ∷ first ∷ second ∷ third ∷ []) seed rows cols nodes form = absurd form
bench_law (name ∷ word ∷ first ∷ second ∷ third ∷ fourth ∷ []) seed rows cols nodes form =
    bench_form name word first second third fourth seed rows cols nodes form.0 form.1 form.2 form.3 form.4 form.5
bench_law (name ∷ word ∷ first ∷ second ∷ third ∷ fourth ∷ other ∷ words) seed rows cols nodes form = absurd form
