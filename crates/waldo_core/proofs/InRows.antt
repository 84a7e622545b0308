-- A machine that took rows in bulk.
use Rattle.std.proofs.Common.{◌≡◌, ◌∙◌, refl, sym, ap, subst, ℕ, zero, suc, ◌+◌, ◌<◌, ⊎_elim, Bool, false, cond, Option, Some, None, List, [], ◌∷◌, ◌++◌, All, length, map, drop, get_or, set, slice_get, arith}
use Rattle.std.specs.Prelude.{pos, is_some}
use Rattle.std.specs.List.{flat_map, range_with_len}
use Rattle.std.proofs.lemmas.List.{length-map}
use Rattle.std.proofs.lemmas.List.Elements.{All-map}
use Rattle.std.proofs.lemmas.Bool.{cases_eq, le-ltb, ne_eqb}
use Rattle.list_facts.specs.Count.{has, times}
use Rattle.list_facts.proofs.Count.{has_yes}
use Rattle.list_facts.specs.Listed.{listed}
use Rattle.list_facts.proofs.Listed.{listed_is}
use Rattle.prg_chacha.specs.declared.seed.Seed.{Seed}
use Rattle.table_schema.specs.Widths.{Holds}
use Rattle.table_schema.specs.declared.rows.Row.{Row}
use Rattle.table_schema.specs.declared.widths.Widths.{Widths}
use Rattle.onehot_column.specs.declared.piece.Piece.{Piece}
use Rattle.prefix_log.specs.Bulk.{TakesRows}
use Rattle.prefix_log.specs.Journal.{HasNoMark, is_kept}
use Rattle.prefix_log.specs.Logs.{IsLog, Log, empty_log, piece_at}
use Rattle.prefix_log.specs.declared.bulk.Entry.{Entry}
use Rattle.prefix_log.specs.declared.snapshot.Snapshot.{Snapshot}
use Rattle.scan_chunks.specs.Shelf.{Held}
use Rattle.server_rounds.specs.declared.opened.OpenedPair.{OpenedPair}
use Rattle.agreed_rows.specs.Servers.{IsServer}
use Rattle.waldo_core.specs.Core.{Actor, Core, empty_core, fresh}
use Rattle.waldo_core.specs.Core.Fixes.{Unfixed}
use Rattle.waldo_core.specs.Held.{AreFirst, IsActorOf, IsMachine, Table, core_of, log_of, seen_actor, seen_fixes, seen_open}
use Rattle.waldo_core.specs.InBulk.{Leads, appending, core_after, pair_of}
use Rattle.waldo_core.specs.Legal.{IsLegal}
use Rattle.waldo_core.specs.declared.actor.ActorState.{ActorState}
use Rattle.waldo_core.specs.declared.logs.Logs.{Logs}
use Rattle.waldo_core.specs.declared.draw.OpenDraw.{OpenDraw}
use Rattle.waldo_core.specs.declared.events.Event.{Event}
use Rattle.waldo_core.specs.declared.snapshots.Snapshots.{Snapshots}
use Rattle.waldo_core.specs.declared.snapshots.Snapshots.TheVariants as found
use Rattle.waldo_core.proofs.Appending.{rows_lead}
use Rattle.waldo_core.proofs.Elements.{slice_get-set}
use Rattle.waldo_core.proofs.Stays.{legal_stays}

-- ---- logs

free_slot : (o : Option Piece) → is_some o ≡ false → ◌≡◌ {A = Option Piece} None o
free_slot None e = refl
free_slot (Some p) e = absurd cc

-- a legal log whose journal is empty has no pieces
pub blank_log : (k n : ℕ) (w : Widths) (log : Log) → IsLog log → log.server ≡ k → log.widths ≡ w → log.capacity ≡ n → log.journal ≡ [] → log ≡ empty_log k w n
blank_log k n w log is server widths capacity none =
    let slots : listed log.capacity (λ (place : ℕ). None) ≡ log.slots = sym (listed_is log.capacity (λ (place : ℕ). None) None log.slots is.places
    (λ i lt. sym (free_slot (piece_at log.slots i) (is.kept i lt ∙ ap (is_kept i) none ∙ ap (λ (b : Bool). cond b false false) (le-ltb i 0 (omega arith)))))) in
    ap (λ (s : List (Option Piece)). record log { slots = s }) (sym slots)
    ∙ ap (λ (j : List ℕ). record { server = log.server; widths = log.widths; capacity = log.capacity; journal = j; slots = listed log.capacity (λ (place : ℕ). None) }) none
    ∙ ap (λ (i : ℕ). empty_log i log.widths log.capacity) server ∙ ap (λ (u : Widths). empty_log k u log.capacity) widths ∙ ap (empty_log k w) capacity

pair_there : (entries : List Entry) (place : ℕ) (d : Entry) → place < length entries → slice_get (map pair_of entries) place ≡ Some (pair_of (get_or entries place d))
pair_there [] place d lt = absurd (omega arith)
pair_there (e ∷ entries) zero d lt = refl
pair_there (e ∷ entries) (suc place) d lt = pair_there entries place d (omega arith)

range_below : (x a n : ℕ) → 0 < times x (range_with_len a n) → x < a + n
range_below x a zero some = absurd (omega arith)
range_below x a (suc n) some = ⊎_elim (λ (is : x ≡ a). omega arith)
    (λ (ne : x ≡ a → ⊥). let rest : 0 < 0 + times x (range_with_len (a + 1) n) = subst (λ (b : Bool). 0 < cond b 1 0 + times x (range_with_len (a + 1) n)) (ne_eqb x a ne) some in
    let lt = range_below x (a + 1) n (omega arith) in omega arith) (cases_eq x a)

-- its journal has places alone
taken_places : (n m : ℕ) (journal : List ℕ) → journal ≡ range_with_len 0 n → m ≡ n → HasNoMark m journal
taken_places n m journal is same x there =
    let lt = range_below x 0 n (has_yes x (range_with_len 0 n) (ap (has x) (sym is) ∙ there)) in omega arith

-- a log that took the rows has pieces of their order
pub server_of : (k : ℕ) (w : Widths) (entries : List Entry) (log : Log) (d : Entry) → All (λ (e : Entry). Holds w e.row) entries → TakesRows w k entries log → IsServer k w (length entries) (map pair_of entries) log
server_of k w entries log d rows takes = record {
  number = takes.server;
  widths = takes.widths;
  capacity = takes.capacity;
  places = taken_places (length entries) log.capacity log.journal takes.journal takes.capacity;
  shares = λ place piece e. let t = takes.pieces place piece d e in
      record { entry = pair_of (get_or entries place d); there = pair_there entries place d t.0; held = rows place d t.0; share = t.1; wide = t.2 };
}

-- ---- actors

heads : {A : Type 0} (x y : A) (xs ys : List A) → x ∷ xs ≡ y ∷ ys → x ≡ y
heads x y xs ys e = ap (λ (l : List _). get_or l 0 x) e

tails : {A : Type 0} (x y : A) (xs ys : List A) → x ∷ xs ≡ y ∷ ys → xs ≡ ys
tails x y xs ys e = ap (drop 1) e

-- `n` actors but the first
listed_fresh : (n : ℕ) → drop 1 (listed (suc n) (λ (i : ℕ). fresh)) ≡ listed n (λ (i : ℕ). fresh)
listed_fresh n = shifted 0 1 n
  where
    shifted : (a b n : ℕ) → map (λ (i : ℕ). fresh) (range_with_len b n) ≡ map (λ (i : ℕ). fresh) (range_with_len a n)
    shifted a b zero = refl
    shifted a b (suc n) = ap (λ (l : List Actor). fresh ∷ l) (shifted (a + 1) (b + 1) n)

module _ (held : Snapshot → Held) where
  fresh_draw : (a : ActorState) → seen_actor held a ≡ fresh → (draw : OpenDraw) → a.draw ≡ Some draw → ⊥
  fresh_draw a e draw is = no a.draw draw (ap (λ (s : Actor). s.draw) e) is
    where
      no : (o : Option OpenDraw) (d : OpenDraw) → seen_open o ≡ None → o ≡ Some d → ⊥
      no None d e is = absurd cc
      no (Some x) d e is = absurd cc

  fresh_first : (w : Widths) (order : List (Row × Seed)) (s : Snapshots) → seen_fixes held s ≡ Unfixed → AreFirst held w order s
  fresh_first w order found.Unfixed e = tt
  fresh_first w order (found.First s) e = absurd cc
  fresh_first w order (found.Second s t) e = absurd cc
  fresh_first w order (found.Agreed a) e = absurd cc

  fresh_at : (n : ℕ) (actors : List ActorState) → map (seen_actor held) actors ≡ listed n (λ (i : ℕ). fresh) → (i : ℕ) (a : ActorState) → slice_get actors i ≡ Some a → seen_actor held a ≡ fresh
  fresh_at n [] e i a is = absurd cc
  fresh_at zero (x ∷ actors) e i a is = absurd cc
  fresh_at (suc n) (x ∷ actors) e zero a is =
      let same : x ≡ a = cc in
      let head : seen_actor held x ≡ fresh = heads _ _ _ _ e in
      ap (seen_actor held) (sym same) ∙ head
  fresh_at (suc n) (x ∷ actors) e (suc i) a is =
      let tail : map (seen_actor held) actors ≡ listed n (λ (i : ℕ). fresh) = tails _ _ _ _ e ∙ listed_fresh n in
      fresh_at n actors tail i a is

  -- the first actor has seen all rows
  pub first_taken : (m : ℕ) (actors : List ActorState) (x a : ActorState) → map (seen_actor held) actors ≡ listed 16 (λ (i : ℕ). fresh) → slice_get actors 0 ≡ Some x
      → a ≡ record x { floor = m } → map (seen_actor held) (set actors 0 a) ≡ record { floor = m; draw = None; fixes = Unfixed } ∷ listed 15 (λ (i : ℕ). fresh)
  first_taken m [] x a e is new = absurd cc
  first_taken m (y ∷ actors) x a e is new =
      let same : y ≡ x = cc in
      let head : seen_actor held x ≡ fresh = ap (seen_actor held) (sym same) ∙ heads _ _ _ _ e in
      let tail : map (seen_actor held) actors ≡ listed 15 (λ (i : ℕ). fresh) = tails _ _ _ _ e ∙ listed_fresh 15 in
      let seen : seen_actor held a ≡ record { floor = m; draw = None; fixes = Unfixed } =
      ap (seen_actor held) new ∙ ap (λ (s : Actor). record s { floor = m }) head in
      ap (λ (l : List Actor). seen_actor held a ∷ l) tail ∙ ap (λ (s : Actor). s ∷ listed 15 (λ (i : ℕ). fresh)) seen

  actors_taken : (m : ℕ) (w : Widths) (order : List (Row × Seed)) (actors : List ActorState) (x a : ActorState) → map (seen_actor held) actors ≡ listed 16 (λ (i : ℕ). fresh) → slice_get actors 0 ≡ Some x
      → a ≡ record x { floor = m } → (i : ℕ) (b : ActorState) → slice_get (set actors 0 a) i ≡ Some b → IsActorOf held w order b
  actors_taken m w order actors x a e is new i b at = ⊎_elim
      (λ (same : b ≡ a). like b (ap (λ (c : ActorState). c.draw) (same ∙ new)) (ap (λ (c : ActorState). c.snapshots) (same ∙ new)))
      (λ (old : slice_get actors i ≡ Some b). of_fresh b (fresh_at 16 actors e i b old)) (slice_get-set actors 0 a i b at)
    where
      of_fresh : (b : ActorState) → seen_actor held b ≡ fresh → IsActorOf held w order b
      of_fresh b f = record {
        draw = λ draw s. absurd (fresh_draw b f draw s);
        first = fresh_first w order b.snapshots (ap (λ (s : Actor). s.fixes) f);
      }

      like : (b : ActorState) → b.draw ≡ x.draw → b.snapshots ≡ x.snapshots → IsActorOf held w order b
      like b d s =
          let f = fresh_at 16 actors e 0 x is in
          record {
            draw = λ draw t. absurd (fresh_draw x f draw (sym d ∙ t));
            first = fresh_first w order b.snapshots (ap (seen_fixes held) s ∙ ap (λ (s : Actor). s.fixes) f);
          }

leads_legal : (capacity : ℕ) (es : List Event) (core last : Core) → IsLegal core → Leads capacity core es last → IsLegal last
leads_legal capacity [] core last legal e = subst IsLegal e legal
leads_legal capacity (e ∷ es) core last legal lead = leads_legal capacity es lead.0.0 last (legal_stays.1 capacity core lead.0.0 e pair lead.0.1 legal (lead.1 pair)) lead.2
  where
    pair : OpenedPair
    pair = record { total = 0; weighted = 0 }

rows_held : (w : Widths) (entries : List Entry) → All (λ (e : Entry). Holds w e.row) entries → All (λ (e : Row × Seed). Holds w e.0) (map pair_of entries)
rows_held w entries all = All-map (λ (e : Row × Seed). Holds w e.0) pair_of entries all

-- a machine in which nothing was drawn, after it took as many rows as it takes
module _ (held : Snapshot → Held) (space : ℕ) (t : Table) (is : IsMachine held space t) (e : core_of held t ≡ empty_core) (entries : List Entry) (all : length entries ≡ t.capacity)
    (rows : All (λ (e : Entry). Holds t.widths e.row) entries) (logs : Logs) (zero_takes : TakesRows t.widths 0 entries logs.zero) (one_takes : TakesRows t.widths 1 entries logs.one)
    (two_takes : TakesRows t.widths 2 entries logs.two) (x a : ActorState) (there : slice_get t.actors 0 ≡ Some x) (new : a ≡ record x { floor = length entries }) where
  abbrev after : Table
  after = record { widths = t.widths; capacity = t.capacity; workers = t.workers; order = t.order ++ map pair_of entries; logs = logs; actors = set t.actors 0 a }

  no_entry : Entry
  no_entry = record { row = record { columns = 0; buckets = []; value = pos 0 }; seed = record { words = [] } }

  none_before : t.order ≡ []
  none_before = ap (λ (c : Core). c.order) e

  order_is : t.order ++ map pair_of entries ≡ map pair_of entries
  order_is = ap (λ (l : List (Row × Seed)). l ++ map pair_of entries) none_before

  journal_is : range_with_len 0 (length entries) ≡ range_with_len 0 (length (map pair_of entries))
  journal_is = ap (range_with_len 0) (sym (length-map entries pair_of))

  actors_fresh : map (seen_actor held) t.actors ≡ listed 16 (λ (i : ℕ). fresh)
  actors_fresh = ap (λ (c : Core). c.actors) e

  pub core_taken : core_of held after ≡ core_after (map pair_of entries)
  core_taken =
      let count : length entries ≡ length (map pair_of entries) = sym (length-map entries pair_of) in
      ap (λ (l : List (Row × Seed)). record (core_of held after) { order = l }) order_is
      ∙ ap (λ (j : List ℕ). record { order = map pair_of entries; zero = j; one = logs.one.journal; two = logs.two.journal; actors = map (seen_actor held) (set t.actors 0 a) }) (zero_takes.journal ∙ journal_is)
      ∙ ap (λ (j : List ℕ). record { order = map pair_of entries; zero = range_with_len 0 (length (map pair_of entries)); one = j; two = logs.two.journal; actors = map (seen_actor held) (set t.actors 0 a) }) (one_takes.journal ∙ journal_is)
      ∙ ap (λ (j : List ℕ). record { order = map pair_of entries; zero = range_with_len 0 (length (map pair_of entries)); one = range_with_len 0 (length (map pair_of entries)); two = j; actors = map (seen_actor held) (set t.actors 0 a) }) (two_takes.journal ∙ journal_is)
      ∙ ap (λ (l : List Actor). record (core_after (map pair_of entries)) { actors = l }) (first_taken held (length entries) t.actors x a actors_fresh there new
      ∙ ap (λ (n : ℕ). record { floor = n; draw = None; fixes = Unfixed } ∷ listed 15 (λ (i : ℕ). fresh)) count)

  servers_taken : (k : ℕ) → k < 3 → IsServer k t.widths t.capacity (t.order ++ map pair_of entries) (log_of logs k)
  servers_taken zero lt = rw (order_is, ← all) (server_of 0 t.widths entries logs.zero no_entry rows zero_takes)
  servers_taken (suc zero) lt = rw (order_is, ← all) (server_of 1 t.widths entries logs.one no_entry rows one_takes)
  servers_taken (suc (suc zero)) lt = rw (order_is, ← all) (server_of 2 t.widths entries logs.two no_entry rows two_takes)
  servers_taken (suc (suc (suc k))) lt = absurd (omega arith)

  pub machine_taken : IsMachine held space after
  machine_taken = record {
    fits = is.fits;
    few = omega (arith, ap length order_is, length-map entries pair_of, all);
    room = is.room;
    some = is.some;
    most = is.most;
    rows = rw order_is (rows_held t.widths entries rows);
    servers = servers_taken;
    actors = actors_taken held (length entries) t.widths (t.order ++ map pair_of entries) t.actors x a actors_fresh there new;
    legal = subst IsLegal (sym core_taken) (leads_legal t.capacity (flat_map appending (map pair_of entries)) empty_core (core_after (map pair_of entries)) legal_stays.0
        (rows_lead t.capacity (map pair_of entries) (omega (arith, length-map entries pair_of, all))));
  }

first_of : (held : Snapshot → Held) (actors : List ActorState) (x : ActorState) → map (seen_actor held) actors ≡ listed 16 (λ (i : ℕ). fresh) → x ≡ get_or actors 0 x → slice_get actors 0 ≡ Some x
first_of held [] x e is = absurd cc
first_of held (y ∷ actors) x e is = ap Some (sym is)

pub first_there : (held : Snapshot → Held) (space : ℕ) (t : Table) → IsMachine held space t → core_of held t ≡ empty_core → (x : ActorState) → x ≡ get_or t.actors 0 x → slice_get t.actors 0 ≡ Some x
first_there held space t is e x there = first_of held t.actors x (ap (λ (c : Core). c.actors) e) there
