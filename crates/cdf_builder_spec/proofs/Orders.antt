-- A call's number is that of the first rule that is broken: the definitions ask in the order of the lists.
use Rattle.std.proofs.Common.{ℕ, ◌≡◌, refl, ◌∙◌, Bool, true, false, cond, not, List, length}
use Rattle.cdf_unit_prefix.specs.Layout.{Layout, id_at}
use Rattle.cdf_grammar.specs.Encoding.{Item}
use Rattle.cdf_builder_spec.specs.Place.{BuilderPlace, fits}
use Rattle.cdf_builder_spec.specs.Requests.{Request, unit, group, completed}
use Rattle.cdf_builder_spec.specs.Calls.{Finish, start_of, decide_of, call_of, finish_of}
use Rattle.cdf_builder_spec.specs.Orders.{first_broken, size_with, start_rules, next_rules, add_rules, finish_rules}
use Rattle.cdf_builder_spec.proofs.Joining.{joined_tests, unit_tests, group_tests}
use Rattle.cdf_builder_spec.proofs.Replying.{room_tests, start_tests, call_tests, call_is, start_number_lem, call_number_lem}

pub start_order : (l : Layout) (s : List ℕ) (id : ℕ) → (start_of l s id).number ≡ first_broken (start_rules l (length s) id)
unfolding first_broken start_rules
start_order l s id = start_number_lem l s id ∙ start_tests l (length s) id

pub next_order : (l : Layout) (s : List ℕ) (p : BuilderPlace) (u : Item) → (call_of l s p (unit u)).number ≡ first_broken (next_rules l (length s) p u)
unfolding first_broken next_rules
next_order l s p u =
    call_number_lem l s p (unit u) ∙ call_tests l (length s) p (unit u)
    ∙ rw (
      unit_tests l p.units u _,
      joined_tests p.units u.id _,
      room_tests l (length s) (size_with l p (unit u)),
    )

pub add_order : (l : Layout) (s : List ℕ) (p : BuilderPlace) (g : List ℕ) → (call_of l s p (group g)).number ≡ first_broken (add_rules l (length s) p g)
unfolding first_broken add_rules
add_order l s p g =
    call_number_lem l s p (group g) ∙ call_tests l (length s) p (group g)
    ∙ rw (
      group_tests l p.units g _,
      joined_tests p.units (id_at l g) _,
      room_tests l (length s) (size_with l p (group g)),
    )

pub finish_order : (l : Layout) (n : ℕ) (p : BuilderPlace) → (finish_of l n p).number ≡ first_broken (finish_rules l n p)
unfolding first_broken finish_rules finish_of
finish_order l n p = by (fits l n p) (completed p.units)
  where
    by : (fit full : Bool) →
        (cond {A = Finish} (not fit) (record { number = 2; length = 0 })
        (cond (not full) (record { number = 10; length = 0 }) (record { number = 0; length = p.written }))).number
        ≡ cond (not fit) 2 (cond (not full) 10 0)
    by true true = refl
    by true false = refl
    by false full = refl

pub decided : (l : Layout) (s : List ℕ) (p : BuilderPlace) (r : Request) →
    decide_of l (length s) p r ≡ record { number = (call_of l s p r).number; place = (call_of l s p r).place }
decided l s p r = rw (call_is l s p r)
