-- Interval keys of any roots, by what comparison keys do.
use Rattle.std.proofs.Common.{◌≡◌, ℕ, zero, suc, ◌+◌, ◌*◌, ◌-◌, ◌^◌, ◌<◌, Bool, true, false, ◌==◌, cond, List, ◌++◌, length, take, drop, refl, sym, ap, ◌∙◌, arith, length-append}
use Rattle.std.proofs.Math.Seq.{take-append_seam, drop-append_seam}
use Rattle.prg_chacha.specs.declared.seed.Seed.{Seed}
use Rattle.ring128.specs.declared.party.Party.{Party}
use Rattle.key_tree.specs.Keys as tree
use Rattle.compare_keys.specs.declared.level.CompareLevel.{CompareLevel}
use Rattle.compare_keys.specs.Compares.{compare_key}
use Rattle.compare_keys.specs.CompareWords as words
use Rattle.compare_keys.specs.Laws as compares
use Rattle.interval_keys.specs.Intervals.{interval_key, root_at, weight_below}
use Rattle.interval_keys.specs.IntervalWords.{words_of_key, key_of_words}
use Rattle.interval_keys.specs.Keys.{Key}
use Rattle.interval_keys.specs.Laws.{IsReadBack, KeysAddUp, WordsReadBack}
use Rattle.interval_keys.proofs.Sums.{interval_adds_up}

chosen_small : (b : Bool) (w : ℕ) → w < 2 ^ 128 → cond b 0 w < 2 ^ 128
chosen_small true w h = omega arith
chosen_small false w h = h

pub keys_add_up : compares.KeysAddUp → KeysAddUp
keys_add_up law bits low high weight roots order within h x i =
    interval_adds_up low high weight x _ _ _ _ order h
    (law bits high weight (root_at roots 0) (root_at roots 1) within h x i)
    (law bits (low - 1) (weight_below low weight) (root_at roots 2) (root_at roots 3) (omega arith) (chosen_small (low == 0) weight h) x i)

-- two keys that are read back are read back from their words one after another
both_back : (bits : ℕ) (upper lower : tree.Key CompareLevel) → compares.IsReadBack bits upper → compares.IsReadBack bits lower
    → IsReadBack bits (record { upper = upper; lower = lower })
both_back bits upper lower p q =
    let first = words.words_of_key upper in
    let second = words.words_of_key lower in
    let k : Key = record { upper = upper; lower = lower } in
    let front : words.key_of_words bits (take (words.length_of bits) (first ++ second)) ≡ upper =
    ap (λ (n : ℕ). words.key_of_words bits (take n (first ++ second))) (sym p.long) ∙ ap (words.key_of_words bits) (take-append_seam first second) ∙ p.undone in
    let back : words.key_of_words bits (drop (words.length_of bits) (first ++ second)) ≡ lower =
    ap (λ (n : ℕ). words.key_of_words bits (drop n (first ++ second))) (sym p.long) ∙ ap (words.key_of_words bits) (drop-append_seam first second) ∙ q.undone in
    record {
      levels = p.levels;
      long = omega (arith, length-append first second, p.long, q.long);
      undone =
          ap (λ (u : tree.Key CompareLevel). let r : Key = record { upper = u; lower = words.key_of_words bits (drop (words.length_of bits) (first ++ second)) } in r) front
          ∙ ap (λ (l : tree.Key CompareLevel). let r : Key = record { upper = upper; lower = l } in r) back;
    }

pub words_read_back : compares.WordsReadBack → WordsReadBack
words_read_back law party bits low high weight roots are =
    both_back bits (compare_key party bits high weight (root_at roots 0) (root_at roots 1))
    (compare_key party bits (low - 1) (weight_below low weight) (root_at roots 2) (root_at roots 3))
    (law party bits high weight (root_at roots 0) (root_at roots 1) (are 0 (omega arith)) (are 1 (omega arith)))
    (law party bits (low - 1) (weight_below low weight) (root_at roots 2) (root_at roots 3) (are 2 (omega arith)) (are 3 (omega arith)))
