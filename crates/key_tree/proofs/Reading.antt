-- Keys written as words and read back.
use Rattle.std.proofs.Common.{◌≡◌, ℕ, suc, ◌+◌, ◌-◌, ◌*◌, ◌<◌, ◌≤◌, List, [], ◌∷◌, ◌++◌, length, get_or, take, drop, All, refl, sym, ap, subst, ◌∙◌, arith, append_assoc, length-append}
use Rattle.std.specs.List.{flat_map}
use Rattle.std.proofs.Math.Seq.{take-add, take-append_seam, drop-append-add, get_or-append_seam}
use Rattle.std.proofs.lemmas.List.{flat_map_more, take_more, take_all, get_or-take, get_or-drop, drop_more, drop_all, drop-drop, take-append-drop}
use Rattle.std.proofs.lemmas.List.Elements.{All-append, All-cons, All-nil, All-head, All-tail}
use Rattle.list_facts.specs.Listed.{listed}
use Rattle.list_facts.proofs.Listed.{length-listed, listed_more, listed-append, listed_same}
use Rattle.prg_chacha.specs.declared.seed.Seed.{Seed}
use Rattle.prg_chacha.specs.Prg.{low_of, high_of, from_halves_of}
use Rattle.key_tree.specs.Keys.{Key}
use Rattle.key_tree.specs.KeyWords.{words_at, levels_read, key_words, key_read}

-- one level more is read
pub words_more : {L : Type 0} (f : L → List ℕ) (w : ℕ) (ls : List L) (l : L) (ws : List ℕ) (i : ℕ)
    → flat_map f ls ≡ take (w * i) (drop 2 ws) → f l ≡ words_at w ws i → flat_map f (ls ++ l ∷ []) ≡ take (w * (i + 1)) (drop 2 ws)
words_more f w ls l ws i e h =
    let n : w * i + w ≡ w * (i + 1) = omega arith in
    sym (flat_map_more f [] ls l)
    ∙ ap (λ xs. xs ++ f l) e
    ∙ ap (λ xs. take (w * i) (drop 2 ws) ++ xs) (h ∙ ap (take w) (sym (drop-drop (w * i) 2 ws)))
    ∙ sym (take-add (w * i) w (drop 2 ws))
    ∙ ap (λ k. take k (drop 2 ws)) n

-- the part of a list that holds level i
pub part_at : (w v width i : ℕ) (ws : List ℕ) → w ≡ width → v ≡ width → take (2 + w * i + v - (2 + w * i)) (drop (2 + w * i) ws) ≡ words_at width ws i
part_at w v width i ws e f =
    let n : 2 + w * i + v - (2 + w * i) ≡ width = omega arith in
    ap (λ k. take k (drop (2 + w * i) ws)) n ∙ ap (λ u. take width (drop (2 + u * i) ws)) e

-- the control word within the words of a level
pub control_within : (width : ℕ) (ws : List ℕ) (i : ℕ) → 2 < width → get_or (words_at width ws i) 2 0 ≡ get_or ws (2 + width * i + 2) 0
control_within width ws i h = get_or-take width (drop (2 + width * i) ws) 2 0 h ∙ get_or-drop (2 + width * i) ws 2 0

pub read_more : {L : Type 0} (read : List ℕ → L) (w : ℕ) (ws : List ℕ) (n : ℕ) (ls : List L) (l : L)
    → ls ≡ levels_read read w ws n → l ≡ read (words_at w ws n) → ls ++ l ∷ [] ≡ levels_read read w ws (n + 1)
read_more read w ws n ls l e f =
    ap (λ xs. xs ++ l ∷ []) e ∙ ap (λ x. levels_read read w ws n ++ x ∷ []) f ∙ listed_more n (λ i. read (words_at w ws i))

pub length-levels_read : {L : Type 0} (read : List ℕ → L) (w : ℕ) (ws : List ℕ) (n : ℕ) → length (levels_read read w ws n) ≡ n
length-levels_read read w ws n = length-listed n (λ i. read (words_at w ws i))

-- all levels are read, and what is left is the last word
pub words_whole : {L : Type 0} (f : L → List ℕ) (w bits : ℕ) (root : Seed) (levels : List L) (last : ℕ) (ws : List ℕ) → length ws ≡ 3 + w * bits
    → low_of root ≡ get_or ws 0 0 → high_of root ≡ get_or ws 1 0 → flat_map f levels ≡ take (w * bits) (drop 2 ws)
    → last ≡ get_or ws (2 + w * bits) 0 → key_words f (record { root = root; levels = levels; last = last }) ≡ ws
words_whole f w bits root levels last ws long low high middle end =
    ap (λ n. n ∷ high_of root ∷ (flat_map f levels ++ last ∷ [])) low
    ∙ ap (λ n. get_or ws 0 0 ∷ n ∷ (flat_map f levels ++ last ∷ [])) high
    ∙ ap (λ xs. get_or ws 0 0 ∷ get_or ws 1 0 ∷ (xs ++ last ∷ [])) middle
    ∙ ap (λ n. get_or ws 0 0 ∷ get_or ws 1 0 ∷ (take (w * bits) (drop 2 ws) ++ n ∷ [])) end
    ∙ ap (λ xs. get_or ws 0 0 ∷ get_or ws 1 0 ∷ (take (w * bits) (drop 2 ws) ++ xs)) (sym one)
    ∙ ap (λ xs. get_or ws 0 0 ∷ get_or ws 1 0 ∷ xs) (take-append-drop (w * bits) (drop 2 ws))
    ∙ sym (drop_more ws 0 0 (omega arith) ∙ ap (λ xs. get_or ws 0 0 ∷ xs) (drop_more ws 1 0 (omega arith)))
  where
    one : drop (w * bits) (drop 2 ws) ≡ get_or ws (2 + w * bits) 0 ∷ []
    one =
        drop-drop (w * bits) 2 ws ∙ drop_more ws (2 + w * bits) 0 (omega arith)
        ∙ ap (λ xs. get_or ws (2 + w * bits) 0 ∷ xs) (drop_all (2 + w * bits + 1) ws (omega arith))

-- one level more is written
pub written_more : {L : Type 0} (f : L → List ℕ) (ls : List L) (i : ℕ) (l : L) → i < length ls → l ≡ get_or ls i l
    → flat_map f (take (i + 1) ls) ≡ flat_map f (take i ls) ++ f l
written_more f ls i l h e =
    ap (flat_map f) (take_more ls i l h ∙ ap (λ x. take i ls ++ x ∷ []) (sym e)) ∙ sym (flat_map_more f [] (take i ls) l)

pub all_more : {L : Type 0} (P : L → Type 0) (ls : List L) (i : ℕ) (l : L) → i < length ls → l ≡ get_or ls i l
    → All P (take i ls) → P l → All P (take (i + 1) ls)
all_more P ls i l h e before here =
    subst (λ xs. All P xs) (sym (take_more ls i l h ∙ ap (λ x. take i ls ++ x ∷ []) (sym e)))
    (All-append P (take i ls) (l ∷ []) before (All-cons P l [] here (All-nil P)))

-- all levels are written, and then the last word
pub written_whole : {L : Type 0} (f : L → List ℕ) (root : Seed) (levels items : List L) (last low high i : ℕ) (words whole : List ℕ)
    → whole ≡ words ++ last ∷ [] → words ≡ low ∷ high ∷ flat_map f (take i items) → length items ≤ i → items ≡ levels
    → low ≡ low_of root → high ≡ high_of root → whole ≡ key_words f (record { root = root; levels = levels; last = last })
written_whole f root levels items last low high i words whole e g all h l m =
    e
    ∙ ap (λ xs. xs ++ last ∷ []) (g ∙ ap (λ ls. low ∷ high ∷ flat_map f ls) (take_all i items all ∙ h))
    ∙ ap (λ n. n ∷ high ∷ (flat_map f levels ++ last ∷ [])) l
    ∙ ap (λ n. low_of root ∷ n ∷ (flat_map f levels ++ last ∷ [])) m

-- each level is read back
levels_back : {L : Type 0} (f : L → List ℕ) (read : List ℕ → L) (w : ℕ) (ls : List L) (tail : List ℕ) → ((l : L) → length (f l) ≡ w)
    → All (λ l. read (f l) ≡ l) ls → listed (length ls) (λ i. read (take w (drop (w * i) (flat_map f ls ++ tail)))) ≡ ls
levels_back f read w [] tail long all = refl
levels_back f read w (l ∷ ls) tail long all =
    let rest = flat_map f ls ++ tail in
    let one : suc (length ls) ≡ 1 + length ls = omega arith in
    let whole : flat_map f (l ∷ ls) ++ tail ≡ f l ++ rest = append_assoc (f l) (flat_map f ls) tail in
    let at = λ (i : ℕ). read (take w (drop (w * i) (flat_map f (l ∷ ls) ++ tail))) in
    ap (λ n. listed n at) one
    ∙ listed-append 1 (length ls) at
    ∙ ap (λ x. x ∷ listed (length ls) (λ i. at (1 + i)))
    (ap (λ xs. read (take w (drop (w * 0) xs))) whole ∙ first (w * 0) (omega arith) ∙ All-head (λ v. read (f v) ≡ v) l ls all)
    ∙ ap (λ xs. l ∷ xs)
    (listed_same (length ls) (λ i. at (1 + i)) (λ i. read (take w (drop (w * i) rest)))
    (λ i h. ap (λ xs. read (take w (drop (w * (1 + i)) xs))) whole ∙ ap (λ xs. read (take w xs)) (next i (w * (1 + i)) (omega (arith, long l))))
    ∙ levels_back f read w ls tail long (All-tail (λ v. read (f v) ≡ v) l ls all))
  where
    first : (n : ℕ) → n ≡ 0 → read (take w (drop n (f l ++ (flat_map f ls ++ tail)))) ≡ read (f l)
    first n e =
        ap (λ m. read (take w (drop m (f l ++ (flat_map f ls ++ tail))))) e
        ∙ ap (λ m. read (take m (f l ++ (flat_map f ls ++ tail)))) (sym (long l))
        ∙ ap read (take-append_seam (f l) (flat_map f ls ++ tail))

    next : (i n : ℕ) → n ≡ length (f l) + w * i → drop n (f l ++ (flat_map f ls ++ tail)) ≡ drop (w * i) (flat_map f ls ++ tail)
    next i n e = ap (λ m. drop m (f l ++ (flat_map f ls ++ tail))) e ∙ drop-append-add (f l) (flat_map f ls ++ tail) (w * i)

length-levels : {L : Type 0} (f : L → List ℕ) (w : ℕ) (ls : List L) → ((l : L) → length (f l) ≡ w) → length (flat_map f ls) ≡ w * length ls
length-levels f w [] long = omega arith
length-levels f w (l ∷ ls) long = omega (arith, length-levels f w ls long, long l, length-append (f l) (flat_map f ls))

same_key : {L : Type 0} (r s : Seed) (ls ms : List L) (m n : ℕ) → r ≡ s → ls ≡ ms → m ≡ n
    → ◌≡◌ {A = Key L} (record { root = r; levels = ls; last = m }) (record { root = s; levels = ms; last = n })
same_key r s ls ms m n e f g = cc

last_back : {L : Type 0} (f : L → List ℕ) (w : ℕ) (k : Key L) → ((l : L) → length (f l) ≡ w)
    → get_or (key_words f k) (2 + w * length k.levels) 0 ≡ k.last
last_back f w k long =
    let front = low_of k.root ∷ high_of k.root ∷ flat_map f k.levels in
    let n : 2 + w * length k.levels ≡ length front = omega (arith, length-levels f w k.levels long) in
    ap (λ i. get_or (front ++ k.last ∷ []) i 0) n ∙ get_or-append_seam front k.last [] 0

pub length-key_words : {L : Type 0} (f : L → List ℕ) (w : ℕ) (k : Key L) → ((l : L) → length (f l) ≡ w)
    → length (key_words f k) ≡ 3 + w * length k.levels
length-key_words f w k long = omega (arith, length-append (flat_map f k.levels) (k.last ∷ []), length-levels f w k.levels long)

-- the key is read back
pub key_back : {L : Type 0} (f : L → List ℕ) (read : List ℕ → L) (w : ℕ) (k : Key L) → ((l : L) → length (f l) ≡ w)
    → All (λ l. read (f l) ≡ l) k.levels → from_halves_of (low_of k.root) (high_of k.root) ≡ k.root
    → key_read read w (length k.levels) (key_words f k) ≡ k
key_back f read w k long all root =
    same_key _ _ _ _ _ _
    root
    (listed_same (length k.levels) _ _ (λ i h. ap (λ xs. read (take w xs)) (sym (drop-drop (w * i) 2 (key_words f k))))
    ∙ levels_back f read w k.levels (k.last ∷ []) long all)
    (last_back f w k long)

-- and so is what was written
pub written_back : {L : Type 0} (f : L → List ℕ) (read : List ℕ → L) (w : ℕ) (root : Seed) (levels items : List L) (last low high i : ℕ) (whole : List ℕ)
    → whole ≡ key_words f (record { root = root; levels = levels; last = last }) → ((l : L) → length (f l) ≡ w)
    → All (λ l. read (f l) ≡ l) (take i items) → length items ≤ i → items ≡ levels
    → low ≡ low_of root → high ≡ high_of root → from_halves_of low high ≡ root
    → key_read read w (length levels) whole ≡ record { root = root; levels = levels; last = last }
written_back f read w root levels items last low high i whole e long undone all h l m seed =
    ap (key_read read w (length levels)) e
    ∙ key_back f read w (record { root = root; levels = levels; last = last }) long
    (subst (λ ls. All (λ v. read (f v) ≡ v) ls) (take_all i items all ∙ h) undone)
    (ap (λ n. from_halves_of n (high_of root)) (sym l) ∙ ap (λ n. from_halves_of low n) (sym m) ∙ seed)
