-- From every state some forest completes the unit: one table of forests, by the states, and one test over all of them.
use Rattle.std.proofs.Common.{ℕ, ◌≤◌, ◌<◌, ◌≡◌, refl, Bool, true, ◌||◌, List, [], ◌∷◌, inl, arith, ne_eqb, eqb, get_or}
use Rattle.cdf_unit_table.specs.Ids.{call, template, temporary_key, relation_key, line}
use Rattle.cdf_unit_table.specs.States.{states_end, complete, admit}
use Rattle.cdf_unit_table.proofs.Tests.{is_true, below_at}
use Rattle.cdf_grammar.specs.Content.{end}
use Rattle.cdf_grammar.specs.Trees.{Forest, none, tree, ids}
use Rattle.cdf_grammar.specs.Published.{production_of, Name, Conforms}
use Rattle.cdf_grammar.proofs.Fits.{through}

-- Trees of the published grammar.
abbrev Sound : Type 0
Sound = (f : Forest) × Conforms f

nothing_more : Sound
nothing_more = (none, record {})

-- One unit, as short as can be: a name of one letter, numbers of zero bytes, an empty value.
one_letter : Name (1 ∷ 65 ∷ [])
one_letter = record { first = 65; others = []; spelled = refl; short = omega arith; begins = omega arith; goes_on = record {} }

a_key : Sound
unfolding production_of ids
a_key = (tree temporary_key 0 (0 ∷ 0 ∷ 0 ∷ 0 ∷ []) none none, (record { acts = inl refl; says = refl; holds = refl }, record {}, record {}))

-- A relation key, and then these trees.
an_end : Sound → Sound
unfolding production_of ids
an_end (rest, c) =
    (tree relation_key 0 (0 ∷ 0 ∷ 0 ∷ 0 ∷ []) none rest, (record { acts = inl refl; says = refl; holds = refl }, record {}, c))

a_line : Sound
unfolding production_of ids
a_line = (tree line 0 [] none none, (record { acts = inl refl; says = omega arith; holds = refl }, record {}, record {}))

a_call : Sound
unfolding production_of ids
a_call = (tree call 0 (1 ∷ 65 ∷ []) none none, (record { acts = inl refl; says = one_letter; holds = end refl }, record {}, record {}))

a_template : Sound
unfolding production_of ids a_key
a_template = (
  tree template 1 (1 ∷ 65 ∷ []) a_key.0 none,
  (
    record {
      acts = inl refl;
      says = one_letter;
      holds = (temporary_key ∷ [], [], refl, inl refl, end refl);
    },
    a_key.1,
    record {},
  ),
)

-- What completes a unit in each state, from 0, which is none, in the order of the states.
missing : List Sound
missing =
    nothing_more
    -- an EDMM stream
    ∷ a_call
    ∷ nothing_more
    ∷ nothing_more
    ∷ nothing_more
    -- an E/R data group
    ∷ a_template
    ∷ nothing_more
    ∷ nothing_more
    -- a file data group
    ∷ a_line
    ∷ nothing_more
    ∷ nothing_more
    -- a function call
    ∷ nothing_more
    ∷ nothing_more
    ∷ nothing_more
    -- a template
    ∷ a_key
    ∷ nothing_more
    ∷ nothing_more
    ∷ nothing_more
    ∷ nothing_more
    -- a relation
    ∷ an_end (an_end nothing_more)
    ∷ an_end nothing_more
    ∷ nothing_more
    ∷ nothing_more
    -- an ordered relation
    ∷ an_end (an_end nothing_more)
    ∷ an_end nothing_more
    ∷ nothing_more
    ∷ nothing_more
    -- an entity key
    ∷ a_key
    ∷ []

missing_in : ℕ → Sound
missing_in state = get_or missing state nothing_more

-- Some trees of the published grammar complete a unit in this state.
pub record Completes (state : ℕ) : Type 0 where
  pub trees : Forest
  pub conforms : Conforms trees
  pub full : complete (through state (ids trees)) ≡ true

completed : ℕ → Bool
completed state = eqb state 0 || complete (through state (ids (missing_in state).0))

pub completes : (state : ℕ) → 1 ≤ state → state < states_end → Completes state
unfolding completed missing_in missing nothing_more a_key an_end a_line a_call a_template ids through complete admit
completes state some low =
    let full = below_at completed states_end tt state low in
    record {
      trees = (missing_in state).0;
      conforms = (missing_in state).1;
      full = is_true (complete (through state (ids (missing_in state).0))) (rw (ne_eqb state 0 (λ z. omega arith)) at full);
    }
