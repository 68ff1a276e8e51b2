-- A tree that fits is determined by its encoding.
use Rattle.std.proofs.Common.{ℕ, ◌+◌, ◌^◌, ◌<◌, ◌≡◌, refl, sym, ap, Bool, true, false, List, ◌++◌, append_assoc, arith, length, length-append}
use Rattle.std.proofs.Common.{take_at, drop_at}
use Rattle.cdf_unit_prefix.specs.Layout.{Layout, prefix_of}
use Rattle.cdf_unit_table.specs.States.{opens}
use Rattle.cdf_grammar.specs.Trees.{Forest, none, tree}
use Rattle.cdf_grammar.specs.Encoding.{prefix_bytes, unit_bytes, encode}
use Rattle.cdf_grammar.proofs.Fits.{own_of, Passes, Fits}
use Rattle.cdf_grammar.proofs.Prefixes.{length_prefix, length_read, action_read, id_read}
use Rattle.cdf_grammar.proofs.Built.{length_unit, length_tree}

-- Where the first parts are equally long, both parts are equal.
split : (a b c d : List ℕ) → length a ≡ length c → a ++ b ≡ c ++ d → (a ≡ c) × (b ≡ d)
split a b c d same e =
    let p = take_at a b (length a) refl in
    let q = take_at c d (length a) (sym same) in
    let r = drop_at a b (length a) refl in
    let s = drop_at c d (length a) (sym same) in
    (cc, cc)

-- What the bytes of a prefix and those after it say.
prefix_same : (l : Layout) (m n a b i j : ℕ) (x y : List ℕ) → m < 256 ^ l.length_bytes → n < 256 ^ l.length_bytes →
    prefix_bytes l m a i ++ x ≡ prefix_bytes l n b j ++ y → (m ≡ n) × (a ≡ b) × (i ≡ j) × (x ≡ y)
prefix_same l m n a b i j x y hm hn e =
    let w = split (prefix_bytes l m a i) x (prefix_bytes l n b j) y (cc (length_prefix l m a i, length_prefix l n b j)) e in (
      cc (length_read l m a i x hm, length_read l n b j y hn),
      cc (action_read l m a i x, action_read l n b j y),
      cc (id_read l m a i x, id_read l n b j y),
      w.1,
    )

pub leaf_empty : {l : Layout} {id action : ℕ} {text : List ℕ} {inner : Forest} → Passes l id action text inner →
    opens id ≡ false → length (encode l inner) ≡ 0
unfolding encode
leaf_empty p o = rw (p.leaf o)

-- The same bytes after the prefix are the same own data and the same bytes of nested units.
own_same : {l : Layout} {id a b : ℕ} {s t : List ℕ} {f g : Forest} → Passes l id a s f → Passes l id b t g →
    s ++ encode l f ≡ t ++ encode l g → (s ≡ t) × (encode l f ≡ encode l g)
own_same {l} {id} {s} {t} {f} {g} p q e = split s (encode l f) t (encode l g) (go (opens id) refl) e
  where
    go : (b : Bool) → opens id ≡ b → length s ≡ length t
    go true o =
        let same : own_of id s ≡ own_of id t = cc (p.taken, q.taken) in
        cc (p.exact o, q.exact o)
    go false o = omega (arith, simp length-append at (ap length e), leaf_empty p o, leaf_empty q o)

pub unit_parts : (l : Layout) (id action : ℕ) (text inner rest : List ℕ) →
    unit_bytes l id action text inner ++ rest
    ≡ prefix_bytes l (prefix_of l + (length text + length inner)) action id ++ (text ++ (inner ++ rest))
unfolding unit_bytes
unit_parts l id action text inner rest = simp append_assoc

-- A unit and what follows it are the same if their bytes are.
unit_same : (l : Layout) (i j a b : ℕ) (s t f g x y : List ℕ) → length (unit_bytes l i a s f ++ x) < 256 ^ l.length_bytes →
    unit_bytes l i a s f ++ x ≡ unit_bytes l j b t g ++ y → (i ≡ j) × (a ≡ b) × (s ++ f ≡ t ++ g) × (x ≡ y)
unit_same l i j a b s t f g x y size e =
    let w =
    prefix_same l (prefix_of l + (length s + length f)) (prefix_of l + (length t + length g)) a b i j
    (s ++ (f ++ x)) (t ++ (g ++ y))
    (omega (arith, length-append (unit_bytes l i a s f) x, length_unit l i a s f))
    (omega (arith, ap length e, length-append (unit_bytes l j b t g) y, length_unit l j b t g))
    (cc (unit_parts l i a s f x, unit_parts l j b t g y)) in
    let v = split (s ++ f) x (t ++ g) y (simp length-append (omega (arith, w.0))) (simp append_assoc w.3) in
    (w.2, w.1, v.0, v.1)

pub unique : (l : Layout) (t u : Forest) → Fits l t → Fits l u → length (encode l t) < 256 ^ l.length_bytes →
    encode l t ≡ encode l u → t ≡ u
unfolding encode
unique l none none p q size e = refl
unique l none (tree id action text inner rest) p q size e = cc
unique l (tree id action text inner rest) none p q size e = cc
unique l (tree i a s f x) (tree j b t g y) (p, pf, px) (q, qg, qy) size e =
    let long = length_tree l i a s f x in
    let w = unit_same l i j a b s t (encode l f) (encode l g) (encode l x) (encode l y) size e in
    let v = own_same p (rw (← w.0) at q) w.2 in
    let within = unique l f g pf qg (omega arith) v.1 in
    let after = unique l x y px qy (omega arith) w.3 in
    cc
