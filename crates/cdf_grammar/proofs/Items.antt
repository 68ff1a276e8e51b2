-- What the units of trees say, in order: it determines the trees, and it is what the listed units of their bytes say.
use Rattle.std.proofs.Common.{ℕ, ◌+◌, ◌-◌, ◌≤◌, ◌<◌, ◌≡◌, refl, sym, ap, ap₂, ◌∙◌, Bool, true, false, cond, List, [], ◌∷◌, ◌++◌, map, append_assoc}
use Rattle.std.proofs.Common.{append-nil, arith, length, take, drop, take_at, drop-drop}
use Rattle.std.proofs.lemmas.List.{map-append}
use lib.Seq.{drop-append_seam}
use Rattle.cdf_unit_prefix.specs.Layout.{Layout, prefix_of}
use Rattle.cdf_unit_table.specs.States.{opens}
use Rattle.cdf_unit_list.specs.declared.Unit.{Unit}
use Rattle.cdf_grammar.specs.Trees.{Forest, none, tree, ids}
use Rattle.cdf_grammar.specs.Published.{Conforms}
use Rattle.cdf_grammar.specs.Encoding.{prefix_bytes, unit_bytes, encode, list, Item, item_of, says}
use Rattle.cdf_grammar.proofs.Fits.{own_of, Passes, Fits}
use Rattle.cdf_unit_table.specs.Heights.{height}
use Rattle.cdf_unit_table.proofs.Heights.{height_most}
use Rattle.cdf_grammar.proofs.Heights.{OfHeight, Lower, lower, nested}
use Rattle.cdf_grammar.proofs.Unique.{leaf_empty, unit_parts}
use Rattle.cdf_grammar.proofs.Prefixes.{length_prefix}
use Rattle.cdf_grammar.proofs.Built.{length_unit}

abbrev item : ℕ → ℕ → List ℕ → Item
item id action text = record { id = id; action = action; text = text }

-- The units nested in a unit are of one height, lower than its own; complete they need not be.
abbrev pub Low : Forest → Type 0
Low none = record {}
Low (tree id action text inner rest) = Lower (height id) (ids inner) × Low inner × Low rest

pub low : (l : Layout) (f : Forest) → Fits l f → Low f
low l none fits = record {}
low l (tree id action text inner rest) (p, within, after) = (nested p, low l inner within, low l rest after)

-- The first item, if any, is of height n or higher.
abbrev Upper : ℕ → List Item → Type 0
Upper n [] = record {}
Upper n (x ∷ xs) = n ≤ height x.id

-- What follows the units nested in a unit: a sibling of the unit, or what follows the siblings.
upper : (r n : ℕ) (f : Forest) (xs : List Item) → r < n → OfHeight r (ids f) → Upper n xs → Upper r (says f ++ xs)
unfolding says ids
upper r n none [] less same up = record {}
upper r n none (x ∷ xs) less same up = omega arith
upper r n (tree id action text inner rest) xs less same up = omega arith

-- Trees end where an item is as high as what follows them.
said : (f g : Forest) (n : ℕ) (xs ys : List Item) → Low f → Low g → Lower n (ids f) → Lower n (ids g) →
    Upper n xs → Upper n ys → says f ++ xs ≡ says g ++ ys → (f ≡ g) × (xs ≡ ys)
unfolding says ids
said none none n xs ys p q lf lg ux uy e = (refl, e)
said none (tree j b t g y) n xs ys p q lf lg ux uy e = let high : n ≤ height j = rw e at ux in absurd (omega arith)
said (tree i a s f x) none n xs ys p q lf lg ux uy e = let high : n ≤ height i = rw (← e) at uy in absurd (omega arith)
said (tree i a s f x) (tree j b t g y) n xs ys (p, pf, px) (q, qg, qy) lf lg ux uy e =
    let head : item i a s ≡ item j b t = cc in
    let same_id : i ≡ j = ap (λ (z : Item). z.id) head in
    let same-action : a ≡ b = ap (λ (z : Item). z.action) head in
    let same_text : s ≡ t = ap (λ (z : Item). z.text) head in
    let tail : (says f ++ says x) ++ xs ≡ (says g ++ says y) ++ ys = cc in
    let within =
    said f g (height i) (says x ++ xs) (says y ++ ys) pf qg p (rw (← same_id) at q)
    (upper (height i) n x xs lf.0 lf.1 ux) (rw (← same_id) at (upper (height j) n y ys lg.0 lg.1 uy))
    (simp append_assoc at tail) in
    let behind =
    said x y n xs ys px qy (lower (height i) n (ids x) lf.0 lf.1) (lower (height j) n (ids y) lg.0 lg.1)
    ux uy within.1 in
    (cc, behind.1)

-- What the units of one tree say is said by no other.
pub said_low : (t u : Forest) {i j : ℕ} → Low t → Low u → ids t ≡ i ∷ [] → ids u ≡ j ∷ [] →
    says t ≡ says u → t ≡ u
said_low t u {i} {j} p q ti uj e =
    (said t u 5 [] [] p q (rw ti (omega (arith, height_most i), record {})) (rw uj (omega (arith, height_most j), record {}))
    (record {}) (record {}) (simp append-nil e)).0

pub said_once : (l : Layout) (t u : Forest) {i j : ℕ} → Fits l t → Fits l u → ids t ≡ i ∷ [] → ids u ≡ j ∷ [] →
    says t ≡ says u → t ≡ u
said_once l t u p q = said_low t u (low l t p) (low l u q)

-- What stands at a position, past its first bytes.
past : (s : List ℕ) (at : ℕ) (b c : List ℕ) → drop at s ≡ b ++ c → drop (at + length b) s ≡ c
past s at b c e = rw (← drop-drop (length b) at s, e, drop-append_seam b c)

-- What stands past a unit's prefix.
past_prefix : (l : Layout) (s : List ℕ) (at id action : ℕ) (text : List ℕ) (inner rest : Forest) (back : List ℕ) →
    drop at s ≡ encode l (tree id action text inner rest) ++ back →
    drop (at + prefix_of l) s ≡ text ++ (encode l inner ++ (encode l rest ++ back))
unfolding encode
past_prefix l s at id action text inner rest back e =
    let len = prefix_of l + (length text + length (encode l inner)) in
    rw (length_prefix l len action id) at
    (past s at (prefix_bytes l len action id) (text ++ (encode l inner ++ (encode l rest ++ back)))
    (e ∙ append_assoc (unit_bytes l id action text (encode l inner)) (encode l rest) back
    ∙ unit_parts l id action text (encode l inner) (encode l rest ++ back)))

-- The own data of a listed unit ends at its own end if it admits others, and else at its end.
own_data : {l : Layout} {id action : ℕ} {text : List ℕ} {inner : Forest} → Passes l id action text inner →
    (s : List ℕ) (body : ℕ) (rest : List ℕ) → drop body s ≡ text ++ rest →
    take (cond (opens id) (body + own_of id text) (body + (length text + length (encode l inner))) - body) (drop body s) ≡ text
own_data {l} {id} {text} {inner} p s body rest e = rw e (take_at text rest _ (count (opens id) refl))
  where
    count : (b : Bool) → opens id ≡ b →
        length text ≡ cond b (body + own_of id text) (body + (length text + length (encode l inner))) - body
    count true o = omega (arith, p.exact o)
    count false o = omega (arith, leaf_empty p o)

-- What the listed units of trees that stand at a position say.
listed : (l : Layout) (s : List ℕ) (f : Forest) (at : ℕ) (back : List ℕ) → Fits l f → drop at s ≡ encode l f ++ back →
    map (item_of l s) (list l at f) ≡ says f
unfolding list item_of says
listed l s none at back fits e = refl
listed l s (tree id action text inner rest) at back (p, within, after) e =
    let body = at + prefix_of l in
    let own = past_prefix l s at id action text inner rest back e in
    let nest = past s body text (encode l inner ++ (encode l rest ++ back)) own in
    let next = past s (body + length text) (encode l inner) (encode l rest ++ back) nest in
    let end : body + length text + length (encode l inner) ≡ body + (length text + length (encode l inner)) = omega arith in
    let inside = listed l s inner (body + length text) (encode l rest ++ back) within nest in
    let behind = listed l s rest (body + (length text + length (encode l inner))) back after (rw end at next) in
    ap₂ (λ (x : List ℕ) (xs : List Item). item id action x ∷ xs)
    (own_data p s body (encode l inner ++ (encode l rest ++ back)) own)
    (rw (map-append (item_of l s), inside, behind))

-- The listed units of a tree's bytes say what the tree's units say.
pub items : (l : Layout) (s : List ℕ) (t : Forest) → Fits l t → encode l t ≡ s → map (item_of l s) (list l 0 t) ≡ says t
items l s t fits e = listed l s t 0 [] fits (rw append-nil (sym e))

-- Each of these units has the property.
abbrev pub EachUnit : (Unit → Type 0) → List Unit → Type 0
EachUnit P [] = record {}
EachUnit P (u ∷ us) = P u × EachUnit P us

each_append : (P : Unit → Type 0) (us vs : List Unit) → EachUnit P us → EachUnit P vs → EachUnit P (us ++ vs)
each_append P [] vs p q = q
each_append P (u ∷ us) vs p q = (p.0, each_append P us vs p.1 q)

-- The bytes of a unit are those of one tree, with the unit as its root.
pub record Rooted (l : Layout) (s : List ℕ) (u : Unit) : Type 0 where
  pub text : List ℕ
  pub inner : Forest
  pub conforms : Conforms (tree u.id u.action text inner none)
  pub bytes : encode l (tree u.id u.action text inner none) ≡ take (u.end - u.start) (drop u.start s)

-- So it is of every listed unit of trees that stand at a position.
pub rooted : (l : Layout) (s : List ℕ) (f : Forest) (at : ℕ) (back : List ℕ) → Conforms f → drop at s ≡ encode l f ++ back →
    EachUnit (Rooted l s) (list l at f)
unfolding list
rooted l s none at back c e = record {}
rooted l s (tree id action text inner rest) at back (c, within, after) e =
    let body = at + prefix_of l in
    let end = body + (length text + length (encode l inner)) in
    let bytes = unit_bytes l id action text (encode l inner) in
    let own = past_prefix l s at id action text inner rest back e in
    let nest = past s body text (encode l inner ++ (encode l rest ++ back)) own in
    let next = past s (body + length text) (encode l inner) (encode l rest ++ back) nest in
    let same : body + length text + length (encode l inner) ≡ end = omega arith in
    let size : length bytes ≡ end - at = omega (arith, length_unit l id action text (encode l inner)) in
    let here : drop at s ≡ bytes ++ (encode l rest ++ back) = e ∙ append_assoc bytes (encode l rest) back in (
      record {
        text = text;
        inner = inner;
        conforms = (c, within, record {});
        bytes = rw (here, take_at bytes (encode l rest ++ back) (end - at) size, append-nil);
      },
      each_append (Rooted l s) (list l (body + length text) inner) (list l end rest)
          (rooted l s inner (body + length text) (encode l rest ++ back) within nest) (rooted l s rest end back after (rw same at next)),
    )
