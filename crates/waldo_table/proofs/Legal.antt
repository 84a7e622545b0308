-- What a vault and a pass keep.
use Rattle.std.proofs.Common.{◌≡◌, ◌∙◌, refl, sym, ap, subst, ℕ, zero, suc, ◌<◌, ◌≤◌, Bool, true, false, cond, Option, Some, None, slice_get, List, [], ◌∷◌, ◌++◌, length, take, arith}
use Rattle.std.specs.Prelude.{is_some}
use mathlib.Core.List.{IsPrefix}
use Rattle.list_facts.specs.Count.{has, times}
use Rattle.list_facts.proofs.Count.{has_yes, has_from, times-append}
use Rattle.list_facts.proofs.Prefixes.{prefix_length, prefix_self, prefix_trans}
use Rattle.onehot_column.specs.declared.piece.Piece.{Piece}
use Rattle.prefix_log.specs.Journal.{prefix}
use Rattle.prefix_log.specs.Logs.{IsLog, Log, piece_at, placed}
use Rattle.prefix_log.proofs.Marked.{entries_once}
use Rattle.prefix_log.proofs.Prefixes.{prefix_grows, prefix_most}
use Rattle.prg_chacha.specs.declared.seed.Seed.{Seed}
use Rattle.scan_chunks.specs.Shelf.{Held}
use Rattle.std.proofs.lemmas.List.{length-take}
use Rattle.std.proofs.lemmas.Option.{slice_get_within}
use Rattle.table_schema.specs.declared.rows.Row.{Row}
use Rattle.ticket_place.specs.Sights.{Draws, Named, Seen}
use Rattle.agreed_rows.specs.Servers.{IsFixOf, IsServer, IsShareAt, KeepsFirst}
use Rattle.table_schema.specs.declared.widths.Widths.{Widths}
use Rattle.agreed_rows.specs.Agreed.{Entries}
use Rattle.agreed_rows.proofs.Shares.{fix_keeps, in_journal, keeps_grows, server_placed}
use Rattle.waldo_table.specs.Vaults.{Behind, IsJournal, IsVault, tag_for}
use Rattle.waldo_table.specs.declared.tag.VaultTag.{VaultTag}
use Rattle.waldo_table.specs.Faults.{at_server}
use Rattle.waldo_table.specs.Fixes.{IsFixFault}
use Rattle.waldo_table.specs.Tables.{Grows, IsLegal, IsMemory, IsSeat, Looked, PassView}
use Rattle.waldo_table.specs.declared.faults.AgreeFault.{AgreeFault}
use Rattle.waldo_table.specs.declared.faults.FixFault.{FixFault}
use Rattle.waldo_table.specs.declared.faults.FixFault.TheVariants as fix
use Rattle.journal_lock.specs.Seats as lock

-- the last of a list
get_last : {A : Type 0} (xs : List A) (a : A) (i : ℕ) → i ≡ length xs → slice_get (xs ++ a ∷ []) i ≡ Some a
get_last [] a zero e = refl
get_last [] a (suc i) e = absurd (omega arith)
get_last (y ∷ xs) a zero e = absurd (omega arith)
get_last (y ∷ xs) a (suc i) e = get_last xs a i (omega arith)

-- after a draw the entry stands at its place
pub drawn_there : (entry : Row × Seed) (before : Seen) (place : ℕ) (after : Seen) → Draws entry before place after → slice_get after.order place ≡ Some entry
drawn_there entry before place after d = ap (λ (l : List (Row × Seed)). slice_get l place) d.order ∙ get_last (before.order ++ d.others) entry place d.at

-- and the order begins with the old one
pub drawn_grows : (entry : Row × Seed) (before : Seen) (place : ℕ) (after : Seen) → Draws entry before place after → IsPrefix before.order after.order
drawn_grows entry before place after d = (d.others ++ entry ∷ [], sym (append_assoc' before.order d.others (entry ∷ [])) ∙ sym d.order)
  where
    append_assoc' : {A : Type 0} (xs ys zs : List A) → (xs ++ ys) ++ zs ≡ xs ++ (ys ++ zs)
    append_assoc' [] ys zs = refl
    append_assoc' (x ∷ xs) ys zs = ap (λ (l : List _). x ∷ l) (append_assoc' xs ys zs)

-- ---- journals

pub journal_more : (journal : List ℕ) (order more : List (Row × Seed)) → IsPrefix order more → IsJournal journal order → IsJournal journal more
journal_more journal order more p j = record { once = j.once; known = λ place there. let lt = j.known place there in let le = prefix_length order more p in omega arith }

some_of : {A : Type 0} (o : Option A) → is_some o ≡ true → (x : A) × (o ≡ Some x)
some_of None e = absurd cc
some_of (Some x) e = (x, refl)

-- a log's journal has each place once, and just places of the order
pub journal_of : (log : Log) (order : List (Row × Seed)) → IsLog log → IsVault log order → IsJournal log.journal order
journal_of log order legal vault = record { once = once; known = known }
  where
    once : (place : ℕ) → times place log.journal ≤ 1
    once = entries_once log.capacity log.journal legal.fits.1 legal.journal

    known : (place : ℕ) → has place log.journal ≡ true → place < length order
    known place there =
        let p = some_of (piece_at log.slots place) (sym (in_journal log place legal vault.places (vault.places place there)) ∙ there) in
        let share = vault.shares place p.0 p.1 in slice_get_within order place share.entry share.there

pub has_more : (place : ℕ) (old new : List ℕ) → IsPrefix old new → has place old ≡ true → has place new ≡ true
has_more place old new p there = by p.0 p.1
  where
    by : (rest : List ℕ) → old ++ rest ≡ new → has place new ≡ true
    by rest is = let yes = has_yes place old there in let sum = times-append place old rest in let same : times place (old ++ rest) ≡ times place new = ap (times place) is in has_from place new (omega arith)

-- a longer journal has no smaller prefix
pub prefix_rises : (old new : List ℕ) → IsPrefix old new → prefix old ≤ prefix new
prefix_rises old new p = prefix_grows old new (λ place there. has_more place old new p there)

-- a snapshot of a vault
pub fixed_keeps : (log : Log) (order : List (Row × Seed)) (h : Held) → IsLog log → IsVault log order → IsFixOf h log
    → KeepsFirst log.widths log.server order h.rows h
fixed_keeps log order h legal vault fix = fix_keeps log.server log.widths log.capacity order log h vault legal fix

-- ---- passes

seat_more : (s : lock.Seen) (order more : List (Row × Seed)) → IsPrefix order more → IsSeat s order → IsSeat s more
seat_more s order more p seat = record { idle = seat.idle; journal = journal_more s.seen order more p seat.journal }

-- a legal pass is legal with a longer order
pub legal_more : (p : PassView) (sight : Seen) → IsPrefix p.sight.order sight.order → IsLegal p → IsLegal (record p { sight = sight })
legal_more p sight more legal = record {
  zero = seat_more p.zero p.sight.order sight.order more legal.zero;
  one = seat_more p.one p.sight.order sight.order more legal.one;
  two = seat_more p.two p.sight.order sight.order more legal.two;
  floor = let le = prefix_length p.sight.order sight.order more in let before = legal.floor in omega arith;
}

-- a vault that took a piece
pub placed_vault : (log new : Log) (order : List (Row × Seed)) (place : ℕ) (piece : Piece) → new ≡ placed log place piece → IsVault log order → place < log.capacity → IsShareAt log.widths log.server order place piece → IsVault new order
placed_vault log new order place piece is vault lt share =
    let kept : IsServer log.server log.widths log.capacity order new = subst (λ (l : Log). IsServer log.server log.widths log.capacity order l) (sym is) (server_placed log.server log.widths log.capacity order log place piece vault lt share) in
    record { number = refl; widths = refl; capacity = refl; places = kept.places; shares = λ x p there. by_log new log.server log.widths order x p kept there }
  where
    by_log : (l : Log) (k : ℕ) (w : Widths) (o : List (Row × Seed)) (x : ℕ) (p : Piece) → IsServer k w log.capacity o l → piece_at l.slots x ≡ Some p → IsShareAt l.widths l.server o x p
    by_log l k w o x p s there = subst (λ (v : Widths). IsShareAt v l.server o x p) (sym s.widths) (subst (λ (n : ℕ). IsShareAt w n o x p) (sym s.number) (s.shares x p there))

-- and its journal
pub placed_journal : (log new : Log) (order : List (Row × Seed)) (place : ℕ) (piece : Piece) → new ≡ placed log place piece → IsLog new → IsVault log order → place < log.capacity → IsShareAt log.widths log.server order place piece → IsJournal new.journal order
placed_journal log new order place piece is legal vault lt share = journal_of new order legal (placed_vault log new order place piece is vault lt share)

-- the same of what a vault is seen as
pub fixed_as : (log : Log) (order : List (Row × Seed)) (now : Behind) (h : Held) → log ≡ now.log → order ≡ now.order → IsLog log → IsVault log order → IsFixOf h log
    → KeepsFirst now.log.widths now.log.server now.order h.rows h
fixed_as log order now h same_log same_order legal vault fix =
    subst (λ (l : Log). KeepsFirst l.widths l.server now.order h.rows h) same_log (subst (λ (o : List (Row × Seed)). KeepsFirst log.widths log.server o h.rows h) same_order (fixed_keeps log order h legal vault fix))

pub legal_by : (p : PassView) (sight : Seen) → sight ≡ p.sight → IsLegal p → IsLegal (record p { sight = sight })
legal_by p sight same legal = subst (λ (s : Seen). IsLegal (record p { sight = s })) (sym same) legal

-- ---- looks

looked_idle : (order : List (Row × Seed)) (old new : lock.Seen) → Looked order old new → old.holds ≡ false → new.holds ≡ false
looked_idle order old new looked idle = ap (λ (s : lock.Seen). s.holds) looked.rest ∙ idle

pub looked_seat : (order more : List (Row × Seed)) (old new : lock.Seen) → Looked order old new → IsPrefix order more → old.holds ≡ false → IsSeat new more
looked_seat order more old new looked p idle = record { idle = looked_idle order old new looked idle; journal = journal_more new.seen order more p looked.legal }

pub prefix_within : (journal : List ℕ) (order : List (Row × Seed)) → IsJournal journal order → prefix journal ≤ length order
prefix_within journal order j = prefix_most (length order) journal j.known

-- a pass after three looks
module _ (p : PassView) (legal : IsLegal p) (s0 : Seen) (a : lock.Seen) (g0 : IsPrefix p.sight.order s0.order) (l0 : Looked s0.order p.zero a) where
  pub legal_one : (t1 : Seen) → IsPrefix s0.order t1.order → (b' : lock.Seen) → Looked t1.order p.one b' → IsLegal (record { sight = t1; zero = a; one = b'; two = p.two; floor = p.floor })
  legal_one t1 g1 b' l1 =
      let g = prefix_trans _ _ _ g0 g1 in record {
        zero = looked_seat s0.order t1.order p.zero a l0 g1 legal.zero.idle;
        one = looked_seat t1.order t1.order p.one b' l1 (prefix_self t1.order) legal.one.idle;
        two = seat_more p.two p.sight.order t1.order g legal.two;
        floor = let le = prefix_length p.sight.order t1.order g in let before = legal.floor in omega arith;
      }

  pub legal_two : (t1 t2 : Seen) → IsPrefix s0.order t1.order → IsPrefix t1.order t2.order → (b' c' : lock.Seen) → Looked t1.order p.one b' → Looked t2.order p.two c' → (floor : ℕ) → floor ≤ length t2.order
      → IsLegal (record { sight = t2; zero = a; one = b'; two = c'; floor = floor })
  legal_two t1 t2 g1 g2 b' c' l1 l2 floor le = record {
    zero = looked_seat s0.order t2.order p.zero a l0 (prefix_trans _ _ _ g1 g2) legal.zero.idle;
    one = looked_seat t1.order t2.order p.one b' l1 g2 legal.one.idle;
    two = looked_seat t2.order t2.order p.two c' l2 (prefix_self t2.order) legal.two.idle;
    floor = le;
  }

-- a server that has what was seen of it before has no fewer rows
pub never_by : (server floor : ℕ) (fault : FixFault) (result : AgreeFault) (order : List (Row × Seed)) (old new : lock.Seen) → result ≡ at_server server floor fault → IsFixFault floor new.seen fault → Looked order old new → floor ≤ prefix old.seen
    → IsMemory result
never_by server floor (fix.Below had) result order old new is below looked le = let rises = prefix_rises old.seen new.seen looked.seen in let lt = below.1 in let same = below.0 in absurd (omega arith)
never_by server floor fix.Memory result order old new is below looked le = subst IsMemory (sym is) tt

pub take_within : {A : Type 0} (n : ℕ) (xs : List A) → length (take n xs) ≤ length xs
take_within n xs = omega (arith, length-take n xs)

pub grows_as : (v now q : PassView) → v ≡ now → IsPrefix v.sight.order q.sight.order → IsPrefix v.zero.seen q.zero.seen → IsPrefix v.one.seen q.one.seen → IsPrefix v.two.seen q.two.seen → Grows now q
grows_as v now q same order at0 at1 at2 = subst (λ (p : PassView). Grows p q) same (record { order = order; zero = at0; one = at1; two = at2 })

pub floor_more : (floor : ℕ) (order more : List (Row × Seed)) → IsPrefix order more → floor ≤ length order → floor ≤ length more
floor_more floor order more p le = let long = prefix_length order more p in omega arith

-- what a snapshot of server k keeps, by the tag of its lock
pub keeps_as : (k : ℕ) (w : Widths) (most : ℕ) (book : Named) (tag : VaultTag) (order more : List (Row × Seed)) (h : Held) → tag ≡ tag_for k w most book → IsPrefix order more → KeepsFirst tag.widths tag.server order h.rows h → KeepsFirst w k more h.rows h
keeps_as k w most book tag order more h is p keeps =
    keeps_grows w k order more h.rows h p (subst (λ (t : VaultTag). KeepsFirst t.widths t.server order h.rows h) is keeps)

pub rows_within : (e : Entries) (w : Widths) (n : ℕ) (order : List (Row × Seed)) → e ≡ record { widths = w; all = take n order } → length e.all ≤ length order
rows_within e w n order is = omega (arith, ap (λ (x : Entries). length x.all) is, take_within n order)
