-- The loop that writes what stands between the runs.
use Rattle.std.proofs.Common.{ℕ, suc, ◌+◌, ◌-◌, ◌≤◌, ◌<◌, ◌≡◌, sym, ap, ◌∙◌, List, [], ◌∷◌, ◌++◌, append-nil, append_assoc, arith, zero-add, add-one}
use Rattle.std.proofs.Common.{length, take, drop, get_or, length-append, length-take, length-drop, drop_of_length-le, take-append-drop, drop-cons}
use Rattle.std.proofs.Common.{drop-drop}
use Rattle.cdf_unit_prefix.specs.Layout.{Layout, prefix_of}
use Rattle.cdf_builder_write.specs.Patch.{patch}
use Rattle.cdf_builder_write.proofs.Patching.{patch_some, patch_behind}
use Rattle.cdf_rescue_spec.specs.Salvage.{pieces}
use Rattle.cdf_rescue_spec.specs.declared.Run.{Run}
use Rattle.cdf_rescue.specs.Parts.{kept_of, Kept}
use Rattle.cdf_rescue.proofs.Runs.{Rising, outside, split, rising_end}

-- Bytes behind those that were written before.
pub patch_on : (at : ℕ) (old new s : List ℕ) → at + (length old + length new) ≤ length s →
    patch (at + length old) new (patch at old s) ≡ patch at (old ++ new) s
patch_on at old new s h =
    let a = take at s ++ old in
    let b = drop (at + length old) s in
    let long : length a ≡ at + length old = simp (length-append, length-take) (omega arith) in
    let both = length-append old new in
    let left = length-drop (at + length old) s in
    let here : at + length old - length a ≡ 0 = omega arith in
    let first : patch at old s ≡ a ++ b = patch_some at old s (omega arith) ∙ sym (append_assoc (take at s) old b) in
    let second : patch 0 new b ≡ new ++ drop (length new) b = patch_some 0 new b (omega arith) ∙ rw (zero-add (length new)) in
    let sum : at + length (old ++ new) ≡ at + length old + length new = omega arith in
    rw (
      first,
      patch_behind (at + length old) new a b (omega arith),
      here,
      second,
      patch_some at (old ++ new) s (omega arith),
      sum,
      drop-drop (length new) (at + length old) s,
    )
    (simp append_assoc)

-- So far: what stands before the position and in none of the first i runs is written.
pub record Copying (l : Layout) (s out₀ : List ℕ) (runs : List Run) (at place i : ℕ) (out : List ℕ) : Type 0 where
  pub ready : Kept l s runs (length out₀)
  pub front : List ℕ
  pub written : out ≡ patch (prefix_of l) front out₀
  pub place_is : place ≡ prefix_of l + length front
  pub rest : kept_of l s ≡ front ++ outside s at (drop i runs)
  pub rise : Rising at (length s) (drop i runs)

module _ (l : Layout) (s out₀ : List ℕ) (runs : List Run) where
  pub copy_begun : Kept l s runs (length out₀) → Copying l s out₀ runs (prefix_of l) (prefix_of l) 0 out₀
  unfolding pieces
  copy_begun g =
      let w = split l s (prefix_of l) g.prefix in
      let none : prefix_of l + 0 ≡ prefix_of l = omega arith in
      let same : patch (prefix_of l) [] out₀ ≡ out₀ = patch_some (prefix_of l) [] out₀ (omega (arith, g.fits)) ∙ rw (none, take-append-drop) in
      record { ready = g; front = []; written = sym same; place_is = omega arith; rest = rw g.all w.kept_is; rise = rw g.all w.rise }

  module _ (at place i : ℕ) (out : List ℕ) (g : Copying l s out₀ runs at place i out) where
    -- What is written next has room.
    next_room : (new more : List ℕ) → kept_of l s ≡ g.front ++ (new ++ more) → prefix_of l + (length g.front + length new) ≤ length out₀
    next_room new more e =
        let long = ap length e in
        omega (arith, g.ready.fits, length-append g.front (new ++ more), length-append new more)

    next_written : (new more out' : List ℕ) → kept_of l s ≡ g.front ++ (new ++ more) → out' ≡ patch place new out →
        out' ≡ patch (prefix_of l) (g.front ++ new) out₀
    next_written new more out' e is =
        is ∙ rw (g.place_is, g.written) (patch_on (prefix_of l) g.front new out₀ (next_room new more e))

    -- The next run.
    pub record Turn (r : Run) : Type 0 where
      pub low : at ≤ r.from
      pub high : r.from ≤ length s
      pub place_low : place + (r.from - at) ≤ length out₀
      pub on : (out' : List ℕ) → out' ≡ patch place (take (r.from - at) (drop at s)) out →
          Copying l s out₀ runs r.to (place + (r.from - at)) (i + 1) out'

    pub turn : (d : Run) → i < length runs → Turn (get_or runs i d)
    turn d some =
        let r = get_or runs i d in
        let cut : drop i runs ≡ r ∷ drop (suc i) runs = drop-cons runs i d some in
        let rise : Rising at (length s) (r ∷ drop (suc i) runs) = rw cut at g.rise in
        let new = take (r.from - at) (drop at s) in
        let more = outside s r.to (drop (suc i) runs) in
        let parts : kept_of l s ≡ g.front ++ (new ++ more) = g.rest ∙ rw cut in
        let high = rising_end r.to (length s) (drop (suc i) runs) rise.2 in
        let long : length new ≡ r.from - at = omega (arith, length-take (r.from - at) (drop at s), length-drop at s, rise.0, rise.1) in
        record {
          low = rise.0;
          high = omega (arith, rise.1);
          place_low = omega (arith, next_room new more parts, g.place_is);
          on = λ out' is. record {
            ready = g.ready;
            front = g.front ++ new;
            written = next_written new more out' parts is;
            place_is = omega (arith, g.place_is, length-append g.front new);
            rest = parts ∙ rw (add-one i) (sym (append_assoc g.front new more));
            rise = rw (add-one i) rise.2;
          };
        }

    -- The last bytes, and then the prefix with its length.
    pub record Last : Type 0 where
      pub low : at ≤ length s
      pub size : place + (length s - at) ≡ prefix_of l + length (kept_of l s)
      pub all : (out' : List ℕ) → out' ≡ patch place (drop at s) out → out' ≡ patch (prefix_of l) (kept_of l s) out₀

    pub last : length runs ≤ i → Last
    last over =
        let none : drop i runs ≡ [] = drop_of_length-le runs over in
        let low : at ≤ length s = rw none at g.rise in
        let parts : kept_of l s ≡ g.front ++ drop at s = g.rest ∙ rw none in
        let all : kept_of l s ≡ g.front ++ (drop at s ++ []) = parts ∙ rw append-nil in
        let long = ap length parts in
        record {
          low = low;
          size = omega (arith, g.place_is, length-append g.front (drop at s), length-drop at s);
          all = λ out' is. next_written (drop at s) [] out' all is ∙ rw parts;
        }
