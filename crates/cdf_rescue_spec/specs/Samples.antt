-- Rescues that are computed: of each the number, the dropped runs and the group.
use Rattle.std.specs.Prelude.{ℕ, zero, suc, List, [], ◌∷◌, ◌++◌, length, take, drop}
use Rattle.cdf_unit_prefix.specs.Layout.{layout_of}
use Rattle.cdf_unit_prefix.specs.declared.Edition.TheVariants.{First, Second}
use Rattle.cdf_unit_list.specs.Samples.{k1, k2}
use Rattle.cdf_rescue_spec.specs.Salvage.{Rescued, refusal, rescue_of}
use Rattle.cdf_rescue_spec.specs.declared.Run.{Run}

-- Two templates P, with the keys A and B.
abbrev key_a : List ℕ
key_a = 0xcd ∷ 0xf1 ∷ 0 ∷ 0x0f ∷ 1 ∷ 5 ∷ 1 ∷ 0x50 ∷ 0xcd ∷ 0xf1 ∷ 0 ∷ 7 ∷ 0 ∷ 7 ∷ 0x41 ∷ []

abbrev key_b : List ℕ
key_b = 0xcd ∷ 0xf1 ∷ 0 ∷ 0x0f ∷ 1 ∷ 5 ∷ 1 ∷ 0x50 ∷ 0xcd ∷ 0xf1 ∷ 0 ∷ 7 ∷ 0 ∷ 7 ∷ 0x42 ∷ []

-- The prefix of an E/R group of one of them, and of one of both.
abbrev of_one : List ℕ
of_one = 0xcd ∷ 0xf1 ∷ 0 ∷ 0x15 ∷ 0 ∷ 4 ∷ []

abbrev of_both : List ℕ
of_both = 0xcd ∷ 0xf1 ∷ 0 ∷ 0x24 ∷ 0 ∷ 4 ∷ []

-- A unit without its byte number k.
abbrev without : ℕ → List ℕ → List ℕ
without k s = take k s ++ drop (suc k) s

-- The person of K2, a template; the prefix of a group of two of it, and one of three.
abbrev person : List ℕ
person = drop 6 k2

abbrev of_two : List ℕ
of_two = 0xcd ∷ 0xf1 ∷ 0 ∷ 0x56 ∷ 0 ∷ 4 ∷ []

abbrev three : List ℕ
three = 0xcd ∷ 0xf1 ∷ 0 ∷ 0x7e ∷ 0 ∷ 4 ∷ (person ++ (person ++ person))

-- A stray byte before each of n templates.
unfoldable pub gaps : ℕ → List ℕ
gaps zero = []
gaps (suc n) = 0 ∷ (key_a ++ gaps n)

abbrev run : ℕ → ℕ → Run
run a b = record { from = a; to = b }

abbrev whole : List Run → List ℕ → Rescued
whole runs group = record { number = 0; runs = runs; group = group }

abbrev rescue : ℕ → List ℕ → Rescued
rescue room s = rescue_of (layout_of First) room s

unfoldable pub samples_found : List Rescued
unfolding rescue_of
samples_found =
    -- an accepted group, with just the room for it, and with a byte less
    rescue 46 k2
    ∷ rescue 45 k2
    -- whatever stands in the first six bytes
    ∷ rescue 46 (0 ∷ 1 ∷ 2 ∷ 3 ∷ 4 ∷ 5 ∷ drop 6 k2)
    -- a byte lost in the first of two templates, in the second, and two bytes added between them
    ∷ rescue 100 (of_both ++ (without 7 key_a ++ key_b))
    ∷ rescue 100 (of_both ++ (key_a ++ without 14 key_b))
    ∷ rescue 100 (of_both ++ (key_a ++ (0xcd ∷ 0xf1 ∷ key_b)))
    -- two runs; and the front of a broken unit before whole ones
    ∷ rescue 100 (of_both ++ (0 ∷ (key_a ++ (0 ∷ 0 ∷ key_b))))
    ∷ rescue 100 (of_both ++ (take 8 key_a ++ (key_a ++ key_b)))
    -- room for what is kept, less than the input has; and a byte less than that
    ∷ rescue 21 (of_both ++ (without 7 key_a ++ key_b))
    ∷ rescue 20 (of_both ++ (without 7 key_a ++ key_b))
    -- K2 with a byte lost, and twice with a byte between; of three persons a byte lost in the first one's name, and in its last value
    ∷ rescue 100 (without 20 k2)
    ∷ rescue 100 (k2 ++ (0 ∷ k2))
    ∷ rescue 200 (without 14 three)
    ∷ rescue 200 (without 45 three)
    -- a file group has nothing that an E/R group holds; no bytes after the first six, and too few
    ∷ rescue 100 k1
    ∷ rescue 100 (take 6 k2)
    ∷ rescue 100 (take 5 k2)
    ∷ rescue 100 []
    -- in the second edition these are no units
    ∷ rescue_of (layout_of Second) 100 (0 ∷ 0 ∷ k2)
    -- and seven bytes are too few
    ∷ rescue_of (layout_of Second) 100 (take 7 k2)
    ∷ []

abbrev pub samples_due : List Rescued
samples_due =
    whole [] k2
    ∷ refusal 12
    ∷ whole [] k2
    ∷ whole (run 6 20 ∷ []) (of_one ++ key_b)
    ∷ whole (run 21 35 ∷ []) (of_one ++ key_a)
    ∷ whole (run 21 23 ∷ []) (of_both ++ (key_a ++ key_b))
    ∷ whole (run 6 7 ∷ run 22 24 ∷ []) (of_both ++ (key_a ++ key_b))
    ∷ whole (run 6 14 ∷ []) (of_both ++ (key_a ++ key_b))
    ∷ whole (run 6 20 ∷ []) (of_one ++ key_b)
    ∷ refusal 12
    ∷ refusal 16
    ∷ whole (run 46 53 ∷ []) (of_two ++ (person ++ person))
    ∷ whole (run 6 45 ∷ []) (of_two ++ (person ++ person))
    -- the first is kept with the first byte of the second one's mark as the end of its value, and the second is dropped
    ∷ whole (run 46 85 ∷ []) (of_two ++ (take 39 person ++ (0xcd ∷ person)))
    ∷ refusal 16
    ∷ refusal 16
    ∷ refusal 3
    ∷ refusal 3
    ∷ refusal 16
    ∷ refusal 3
    ∷ []

-- With 64 runs, and with one more.
unfoldable pub runs_found : List ℕ
unfolding rescue_of gaps
runs_found =
    length (rescue 2000 (of_one ++ gaps 64)).runs
    ∷ length (rescue 2000 (of_one ++ gaps 64)).group
    ∷ (rescue 2000 (of_one ++ gaps 65)).number
    ∷ (rescue 2000 (of_one ++ (key_a ++ gaps 64))).number
    ∷ []

abbrev pub runs_due : List ℕ
runs_due = 64 ∷ 966 ∷ 17 ∷ 0 ∷ []
