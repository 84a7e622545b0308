-- Words after one shift more.
use Rattle.std.proofs.Common.{◌≡◌, ◌≢◌, ℕ, ◌+◌, ◌^◌, ◌<◌, true, false, eqb, List, [], ◌∷◌, ◌++◌, length, get_or, slice_set, take, All, ⊎_elim, sym, ap, ◌∙◌, arith}
use Rattle.std.proofs.lemmas.List.{ext_get_or, take_more, map-append, length-set, get_or-set_same, get_or-set_other}
use Rattle.std.proofs.lemmas.List.Elements.{filter-append}
use Rattle.std.proofs.lemmas.Bool.{eq-eqb}
use Rattle.std.proofs.lemmas.Bool.Decides.{eqb_tells}
use Rattle.std.proofs.lemmas.Grind.{get_or_default_zero}
use Rattle.list_facts.proofs.Listed.{length-listed, get_or-listed}
use Rattle.ring128.specs.Ring.{plus}
use Rattle.ring128.proofs.Laws.{length-sums, get_or-sums, total_of-append}
use Rattle.wire_line.specs.declared.shifts.Shift.{Shift}
use Rattle.wire_line.specs.Shifts.{names, amount_at, shifted}

-- the amounts of two lists of shifts
amount_at-append : (xs ys : List Shift) (message word : ℕ) → amount_at (xs ++ ys) message word ≡ plus (amount_at xs message word) (amount_at ys message word)
amount_at-append xs ys message word = rw (filter-append, map-append, total_of-append)

amount_hit : (s : Shift) (message word : ℕ) → names message word s ≡ true → amount_at (s ∷ []) message word ≡ plus s.amount 0
amount_hit s message word e = rw e

amount_miss : (s : Shift) (message word : ℕ) → names message word s ≡ false → amount_at (s ∷ []) message word ≡ 0
amount_miss s message word e = rw e

pub length-shifted : (shifts : List Shift) (message : ℕ) (words : List ℕ) → length (shifted shifts message words) ≡ length words
length-shifted shifts message words = length-sums words _ (sym (length-listed (length words) (amount_at shifts message)))

pub get_or-shifted : (shifts : List Shift) (message : ℕ) (words : List ℕ) (i : ℕ) → i < length words
    → get_or (shifted shifts message words) i 0 ≡ plus (get_or words i 0) (amount_at shifts message i)
get_or-shifted shifts message words i h =
    get_or-sums words _ i (sym (length-listed (length words) (amount_at shifts message))) h
    ∙ ap (plus (get_or words i 0)) (get_or-listed (length words) i (amount_at shifts message) 0 h)

-- without shifts the words stay
pub shifted_none : (message : ℕ) (words : List ℕ) → ((i : ℕ) → i < length words → get_or words i 0 < 2 ^ 128) → words ≡ shifted [] message words
shifted_none message words small =
    ext_get_or 0 words _ (sym (length-shifted [] message words)) (λ i h. omega (arith, get_or-shifted [] message words i h, small i h))

-- the shifts of two lists, one after the other
pub shifted-append : (xs ys : List Shift) (message : ℕ) (words : List ℕ)
    → shifted ys message (shifted xs message words) ≡ shifted (xs ++ ys) message words
shifted-append xs ys message words =
    let once = shifted xs message words in
    let same : length once ≡ length words = length-shifted xs message words in
    ext_get_or 0 _ _ (length-shifted ys message once ∙ (same ∙ sym (length-shifted (xs ++ ys) message words)))
    (λ i b. let h : i < length words = omega (arith, length-shifted ys message once) in
    let k : i < length once = omega arith in
    omega (arith, get_or-shifted ys message once i k, get_or-shifted xs message words i h, get_or-shifted (xs ++ ys) message words i h, amount_at-append xs ys message i))

-- one shift more
pub shifted_more : (shifts : List Shift) (i : ℕ) (d : Shift) (message : ℕ) (words : List ℕ) → i < length shifts
    → shifted (get_or shifts i d ∷ []) message (shifted (take i shifts) message words) ≡ shifted (take (i + 1) shifts) message words
shifted_more shifts i d message words h = rw (take_more shifts i d h) (shifted-append (take i shifts) (get_or shifts i d ∷ []) message words)

-- a shift of another message or of no word that is there
names_miss : (s : Shift) (message : ℕ) (words : List ℕ) (i : ℕ) → (s.message ≡ message → s.word < length words → ⊥) → i < length words → names message i s ≡ false
names_miss s message words i none h =
    ⊎_elim
    (λ (t : (eqb s.message message ≡ true) × (s.message ≡ message)).
    ⊎_elim
    (λ (u : (eqb s.word i ≡ true) × (s.word ≡ i)). absurd (none t.1 (omega arith)))
    (λ (u : (eqb s.word i ≡ false) × (s.word ≢ i)). rw (t.0, u.0))
    (eqb_tells s.word i))
    (λ (t : (eqb s.message message ≡ false) × (s.message ≢ message)). rw t.0)
    (eqb_tells s.message message)

pub shift_miss : (s : Shift) (message : ℕ) (words : List ℕ) → ((i : ℕ) → i < length words → get_or words i 0 < 2 ^ 128)
    → (s.message ≡ message → s.word < length words → ⊥) → words ≡ shifted (s ∷ []) message words
shift_miss s message words small none =
    ext_get_or 0 words _ (sym (length-shifted (s ∷ []) message words))
    (λ i h. omega (arith, get_or-shifted (s ∷ []) message words i h, amount_miss s message i (names_miss s message words i none h), small i h))

-- a shift of a word that is there
pub shift_hit : (s : Shift) (message : ℕ) (words : List ℕ) → ((i : ℕ) → i < length words → get_or words i 0 < 2 ^ 128)
    → s.message ≡ message → s.word < length words → slice_set words s.word (plus (get_or words s.word 0) s.amount) ≡ shifted (s ∷ []) message words
shift_hit s message words small e h =
    let new = slice_set words s.word (plus (get_or words s.word 0) s.amount) in
    let long : length new ≡ length words = length-set words s.word (plus (get_or words s.word 0) s.amount) in
    ext_get_or 0 new _ (long ∙ sym (length-shifted (s ∷ []) message words))
    (λ i b. let k : i < length words = omega arith in
    ⊎_elim
    (λ (t : (eqb s.word i ≡ true) × (s.word ≡ i)).
    let hit : names message i s ≡ true = rw (eq-eqb s.message message e, t.0) in
    let at : get_or new i 0 ≡ plus (get_or words s.word 0) s.amount =
    ap (λ (n : ℕ). get_or new n 0) (sym t.1) ∙ get_or-set_same words s.word (plus (get_or words s.word 0) s.amount) 0 h in
    let word : get_or words i 0 ≡ get_or words s.word 0 = ap (λ (n : ℕ). get_or words n 0) (sym t.1) in
    omega (arith, get_or-shifted (s ∷ []) message words i k, amount_hit s message i hit))
    (λ (t : (eqb s.word i ≡ false) × (s.word ≢ i)).
    let miss : names message i s ≡ false = rw (eq-eqb s.message message e, t.0) in
    let at : get_or new i 0 ≡ get_or words i 0 = get_or-set_other words s.word i (plus (get_or words s.word 0) s.amount) 0 (λ d. t.1 (sym d)) in
    omega (arith, get_or-shifted (s ∷ []) message words i k, amount_miss s message i miss, small i k))
    (eqb_tells s.word i))

-- the words after the shifts are in their range
pub small_shifted : (shifts : List Shift) (message : ℕ) (words : List ℕ) → All (λ (w : ℕ). w < 2 ^ 128) (shifted shifts message words)
small_shifted shifts message words = λ i d h.
    let k : i < length words = omega (arith, length-shifted shifts message words) in
    omega (arith, get_or-shifted shifts message words i k, get_or_default_zero (shifted shifts message words) i d h)
