-- What the builder's calls answer, and the whole buffer after each (01, "Builder"). Its numbers carry no offset.
use Rattle.std.specs.Prelude.{ℕ, ◌+◌, ◌-◌, cond, not, List, [], ◌∷◌, length, ltb, eqb}
use Rattle.cdf_unit_table.specs.Ids.{known}
use Rattle.cdf_unit_table.specs.States.{root_kind, nothing}
use Rattle.cdf_unit_prefix.specs.Layout.{Layout, prefix_of}
use Rattle.cdf_grammar.specs.Encoding.{bytes_of, unit_bytes}
use Rattle.cdf_builder_write.specs.Patch.{patch}
use Rattle.cdf_builder_spec.specs.Place.{BuilderPlace, fits}
use Rattle.cdf_builder_spec.specs.Requests.{Request, bytes_for, completed, refused, grown}
use Rattle.cdf_builder_spec.specs.declared.Begun.{Begun}

-- A call's number, the new place, and the buffer.
pub record Reply : Type 0 where
  pub number : ℕ
  pub place : BuilderPlace
  pub buffer : List ℕ

-- The empty place, which a refused start returns.
abbrev pub no_builder_place : BuilderPlace
no_builder_place = record { written = 0; units = [] }

-- Each of these units has the bytes so far, less its start, as its length.
unfoldable pub lengths : Layout → ℕ → List Begun → List ℕ → List ℕ
unfolding patch bytes_of
lengths l written [] s = s
lengths l written (o ∷ os) s = patch (o.start + 2) (bytes_of l.length_bytes (written - o.start)) (lengths l written os s)

-- 13: past the limit. 12: no room in the buffer of n bytes.
unfoldable pub room : Layout → ℕ → ℕ → ℕ
room l n size = cond (ltb l.limit size) 13 (cond (ltb n size) 12 0)

-- START: 6, 7, 12; else the root's prefix is written, and the root is open.
unfoldable pub start_number : Layout → ℕ → ℕ → ℕ
unfolding known root_kind
start_number l n id = cond (not (known id)) 6 (cond (not (root_kind id)) 7 (cond (ltb n (prefix_of l)) 12 0))

unfoldable pub start_of : Layout → List ℕ → ℕ → Reply
unfolding start_number nothing patch unit_bytes
start_of l s id =
    let n : ℕ = start_number l (length s) id in
    cond (eqb n 0)
    (record {
      number = 0;
      place = record { written = prefix_of l; units = record { state = nothing id; start = 0 } ∷ [] };
      buffer = patch 0 (unit_bytes l id 0 [] []) s;
    })
    (record { number = n; place = no_builder_place; buffer = s })

-- NEXT and ADD_STREAM: 2 for a place that does not fit, the request's own rules, 13 and 12.
unfoldable pub call_number : Layout → ℕ → BuilderPlace → Request → ℕ
unfolding fits refused room bytes_for
call_number l n p r =
    cond (not (fits l n p)) 2 (refused l p.units r (room l n (p.written + length (bytes_for l r))))

-- The number and the new place: what is decided before a byte is written. Of the buffer only the length is asked.
pub record Decision : Type 0 where
  pub number : ℕ
  pub place : BuilderPlace

unfoldable pub decide_of : Layout → ℕ → BuilderPlace → Request → Decision
unfolding call_number grown
decide_of l n p r =
    let number : ℕ = call_number l n p r in
    record { number = number; place = cond (eqb number 0) (grown l p r) p }

-- What is then written: the request's bytes where the writing stands, and the length of every unit that is left open.
unfoldable pub write_of : Layout → ℕ → BuilderPlace → List ℕ → List ℕ → List ℕ
unfolding lengths patch
write_of l at p bytes s = lengths l p.written p.units (patch at bytes s)

unfoldable pub call_of : Layout → List ℕ → BuilderPlace → Request → Reply
unfolding decide_of write_of bytes_for
call_of l s p r =
    let d : Decision = decide_of l (length s) p r in
    record {
      number = d.number;
      place = d.place;
      buffer = cond (eqb d.number 0) (write_of l p.written d.place (bytes_for l r) s) s;
    }

-- FINISH: 2, and 10 where an open unit is incomplete; else the stream's length.
pub record Finish : Type 0 where
  pub number : ℕ
  pub length : ℕ

unfoldable pub finish_of : Layout → ℕ → BuilderPlace → Finish
unfolding fits completed
finish_of l n p =
    cond (not (fits l n p)) (record { number = 2; length = 0 })
    (cond (not (completed p.units)) (record { number = 10; length = 0 }) (record { number = 0; length = p.written }))
