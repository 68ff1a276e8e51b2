-- In trees that fit, the units nested in a unit are of one height, lower than its own: so trees are at most five deep.
use Rattle.std.proofs.Common.{ℕ, suc, ◌≤◌, ◌<◌, ◌≡◌, refl, Bool, true, false, List, [], ◌∷◌, arith}
use Rattle.cdf_unit_prefix.specs.Layout.{Layout}
use Rattle.cdf_unit_table.specs.States.{admit, opens, nothing, unit_of}
use Rattle.cdf_unit_table.specs.Heights.{height}
use Rattle.cdf_unit_table.proofs.Heights.{level, admit_lower, opens_lower, height_most}
use Rattle.cdf_grammar.specs.Trees.{Forest, none, tree, ids, depth}
use Rattle.cdf_grammar.proofs.Fits.{through, through_none, complete_some, Passes, Fits}

-- Each of these ids is of this height.
abbrev pub OfHeight : ℕ → List ℕ → Type 0
OfHeight r [] = record {}
OfHeight r (id ∷ cs) = (height id ≡ r) × OfHeight r cs

pub through_height : (state : ℕ) (cs : List ℕ) → (through state cs ≡ 0 → ⊥) → OfHeight (level (unit_of state)) cs
unfolding through
through_height state [] some = record {}
through_height state (c ∷ cs) some =
    let w = admit_lower state c (λ e. some (rw e (through_none cs))) in
    (w.alike, rw w.stays at (through_height (admit state c) cs some))

-- These ids are of one height, below n.
abbrev pub Lower : ℕ → List ℕ → Type 0
Lower n [] = record {}
Lower n (id ∷ cs) = (height id < n) × OfHeight (height id) cs

pub lower : (r n : ℕ) (cs : List ℕ) → r < n → OfHeight r cs → Lower n cs
lower r n [] less same = record {}
lower r n (c ∷ cs) less same = (omega arith, rw same.0 same.1)

pub nested : {l : Layout} {id action : ℕ} {text : List ℕ} {inner : Forest} → Passes l id action text inner →
    Lower (height id) (ids inner)
unfolding ids
nested {id} {inner} p = go (opens id) refl
  where
    go : (b : Bool) → opens id ≡ b → Lower (height id) (ids inner)
    go true o =
        lower (level id) (height id) (ids inner) (opens_lower id o).lower
        (rw (opens_lower id o).own at (through_height (nothing id) (ids inner) (complete_some (through (nothing id) (ids inner)) (p.full o))))
    go false o = rw (p.leaf o) (record {})

depth_lower : (l : Layout) (f : Forest) (n : ℕ) → Fits l f → Lower n (ids f) → depth f ≤ n
unfolding depth ids
depth_lower l none n fits low = omega arith
depth_lower l (tree id action text inner rest) n (p, within, after) low =
    let inside = depth_lower l inner (height id) within (nested p) in
    let behind = depth_lower l rest n after (lower (height id) n (ids rest) low.0 low.1) in
    omega arith

pub depth_root : (l : Layout) (t : Forest) (id : ℕ) → ids t ≡ id ∷ [] → Fits l t → depth t ≤ suc (height id)
depth_root l t id root fits = depth_lower l t (suc (height id)) fits (rw root (omega arith, record {}))

pub depth_most : (l : Layout) (t : Forest) (id : ℕ) → ids t ≡ id ∷ [] → Fits l t → depth t ≤ 5
depth_most l t id root fits = omega (arith, depth_root l t id root fits, height_most id)
