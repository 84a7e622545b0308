-- How traces grow over calls that follow each other.
use Rattle.std.proofs.Common.{◌≡◌, ◌∙◌, refl, sym, ap, subst, List, [], ◌++◌, append-nil, append_assoc, Result, Ok, Err, ℕ}
use Rattle.std.specs.Result.{IsErr}
use Rattle.std.proofs.lemmas.Grind.{flat_map-append}
use Rattle.scan_chunks.specs.declared.visit.Visit.{Visit}
use Rattle.visit_trace.specs.Seen.{Seen, AllSeen, SawMore, Grew, AddsPrefix, SawPrefix, GrewPrefix, GrewBy, nothing, alike}
use Rattle.visit_trace.specs.Expected.{chunk_visits, part_seen}
use Rattle.visit_trace.specs.declared.sizes.Sizes.{Sizes}

-- one part and then another
abbrev pub then_at : Seen → Seen → Seen
then_at p q = record { visits = p.visits ++ q.visits; lengths = p.lengths ++ q.lengths }

abbrev pub seen_then : AllSeen → AllSeen → AllSeen
seen_then p q = record { zero = then_at p.zero q.zero; one = then_at p.one q.one; two = then_at p.two q.two }

-- three parts, and a part with nothing after it
then_joins : (p q r : Seen) → then_at (then_at p q) r ≡ then_at p (then_at q r)
then_joins p q r =
    ap (λ v. record { visits = v; lengths = (p.lengths ++ q.lengths) ++ r.lengths }) (append_assoc p.visits q.visits r.visits)
    ∙ ap (λ (l : List ℕ). record { visits = p.visits ++ (q.visits ++ r.visits); lengths = l }) (append_assoc p.lengths q.lengths r.lengths)

pub seen_joins : (p q r : AllSeen) → seen_then (seen_then p q) r ≡ seen_then p (seen_then q r)
seen_joins p q r =
    ap (λ (s : Seen). record { zero = s; one = then_at (then_at p.one q.one) r.one; two = then_at (then_at p.two q.two) r.two })
    (then_joins p.zero q.zero r.zero)
    ∙ ap (λ (s : Seen). record { zero = then_at p.zero (then_at q.zero r.zero); one = s; two = then_at (then_at p.two q.two) r.two })
    (then_joins p.one q.one r.one)
    ∙ ap (λ (s : Seen). record { zero = then_at p.zero (then_at q.zero r.zero); one = then_at p.one (then_at q.one r.one); two = s })
    (then_joins p.two q.two r.two)

pub then_nothing : (s : Seen) → then_at s nothing ≡ s
then_nothing s =
    ap (λ v. record { visits = v; lengths = s.lengths ++ [] }) (append-nil s.visits)
    ∙ ap (λ (l : List ℕ). record { visits = s.visits; lengths = l }) (append-nil s.lengths)

-- lists
module _ {A : Type 0} where
  list_then : (a b c xs ys : List A) → b ≡ a ++ xs → c ≡ b ++ ys → c ≡ a ++ (xs ++ ys)
  list_then a b c xs ys e f = f ∙ ap (λ (l : List A). l ++ ys) e ∙ append_assoc a xs ys

  list_none : (a xs : List A) → AddsPrefix a a xs
  list_none a xs = record { added = []; left = xs; now = sym (append-nil a); all = refl }

  list_whole : (a b xs : List A) → b ≡ a ++ xs → AddsPrefix a b xs
  list_whole a b xs e = record { added = xs; left = []; now = e; all = append-nil xs }

  list_begun : (a b c xs ys : List A) → b ≡ a ++ xs → AddsPrefix b c ys → AddsPrefix a c (xs ++ ys)
  list_begun a b c xs ys e p = record {
    added = xs ++ p.added;
    left = p.left;
    now = list_then a b c xs p.added e p.now;
    all = append_assoc xs p.added p.left ∙ ap (λ (l : List A). xs ++ l) p.all;
  }

  list_cut : (a b xs ys : List A) → AddsPrefix a b xs → AddsPrefix a b (xs ++ ys)
  list_cut a b xs ys p = record {
    added = p.added;
    left = p.left ++ ys;
    now = p.now;
    all = sym (append_assoc p.added p.left ys) ∙ ap (λ (l : List A). l ++ ys) p.all;
  }

-- servers
more_then : (a b c p q : Seen) → SawMore a b p → SawMore b c q → SawMore a c (then_at p q)
more_then a b c p q e f = record {
  visits = list_then a.visits b.visits c.visits p.visits q.visits e.visits f.visits;
  lengths = list_then a.lengths b.lengths c.lengths p.lengths q.lengths e.lengths f.lengths;
}

saw_none : (a p : Seen) → SawPrefix a a p
saw_none a p = record { visits = list_none a.visits p.visits; lengths = list_none a.lengths p.lengths }

saw_whole : (a b p : Seen) → SawMore a b p → SawPrefix a b p
saw_whole a b p e = record {
  visits = list_whole a.visits b.visits p.visits e.visits;
  lengths = list_whole a.lengths b.lengths p.lengths e.lengths;
}

saw_begun : (a b c p q : Seen) → SawMore a b p → SawPrefix b c q → SawPrefix a c (then_at p q)
saw_begun a b c p q e f = record {
  visits = list_begun a.visits b.visits c.visits p.visits q.visits e.visits f.visits;
  lengths = list_begun a.lengths b.lengths c.lengths p.lengths q.lengths e.lengths f.lengths;
}

saw_cut : (a b p q : Seen) → SawPrefix a b p → SawPrefix a b (then_at p q)
saw_cut a b p q e = record {
  visits = list_cut a.visits b.visits p.visits q.visits e.visits;
  lengths = list_cut a.lengths b.lengths p.lengths q.lengths e.lengths;
}

more_nothing : (a : Seen) → SawMore a a nothing
more_nothing a = record { visits = sym (append-nil a.visits); lengths = sym (append-nil a.lengths) }

-- traces: nothing was seen
pub grew_nothing : (t : AllSeen) → Grew t t (alike nothing)
grew_nothing t = record { zero = more_nothing t.zero; one = more_nothing t.one; two = more_nothing t.two }

-- one part, and then another
pub grew_both : (a b c p q : AllSeen) → Grew a b p → Grew b c q → Grew a c (seen_then p q)
grew_both a b c p q e f = record {
  zero = more_then a.zero b.zero c.zero p.zero q.zero e.zero f.zero;
  one = more_then a.one b.one c.one p.one q.one e.one f.one;
  two = more_then a.two b.two c.two p.two q.two e.two f.two;
}

-- of a part nothing, all, or all of its beginning and a prefix of its end, or a prefix of its beginning
pub prefix_none : (t p : AllSeen) → GrewPrefix t t p
prefix_none t p = record { zero = saw_none t.zero p.zero; one = saw_none t.one p.one; two = saw_none t.two p.two }

pub prefix_whole : (a b p : AllSeen) → Grew a b p → GrewPrefix a b p
prefix_whole a b p e = record {
  zero = saw_whole a.zero b.zero p.zero e.zero;
  one = saw_whole a.one b.one p.one e.one;
  two = saw_whole a.two b.two p.two e.two;
}

pub prefix_begun : (a b c p q : AllSeen) → Grew a b p → GrewPrefix b c q → GrewPrefix a c (seen_then p q)
prefix_begun a b c p q e f = record {
  zero = saw_begun a.zero b.zero c.zero p.zero q.zero e.zero f.zero;
  one = saw_begun a.one b.one c.one p.one q.one e.one f.one;
  two = saw_begun a.two b.two c.two p.two q.two e.two f.two;
}

pub prefix_cut : (a b p q : AllSeen) → GrewPrefix a b p → GrewPrefix a b (seen_then p q)
prefix_cut a b p q e = record {
  zero = saw_cut a.zero b.zero p.zero q.zero e.zero;
  one = saw_cut a.one b.one p.one q.one e.one;
  two = saw_cut a.two b.two p.two q.two e.two;
}

-- calls: any adds a prefix
pub by_prefix : {T E : Type 0} (a b p : AllSeen) (r : Result T E) → GrewBy a b p r → GrewPrefix a b p
by_prefix a b p (Ok x) g = prefix_whole a b p g
by_prefix a b p (Err e) g = g

-- one that fails
pub by_stopped : {T E : Type 0} (a b p : AllSeen) (r : Result T E) → IsErr r → GrewPrefix a b p → GrewBy a b p r
by_stopped a b p (Ok x) failed g = absurd cc
by_stopped a b p (Err e) failed g = g

-- a call fails with the first of two, or after it, with the second
pub by_fails : {T U E F : Type 0} (a b p : AllSeen) (r : Result T E) (q : Result U F) → IsErr q → GrewBy a b p r → GrewBy a b p q
by_fails a b p r q failed g = by_stopped a b p q failed (by_prefix a b p r g)

pub by_cut : {T U E F : Type 0} (a b p p' : AllSeen) (r : Result T E) (q : Result U F) → IsErr q → GrewBy a b p r
    → GrewBy a b (seen_then p p') q
by_cut a b p p' r q failed g = by_stopped a b (seen_then p p') q failed (prefix_cut a b p p' (by_prefix a b p r g))

-- a call after another one that had memory
pub by_then : {T E : Type 0} (a b c p q : AllSeen) (r : Result T E) → Grew a b p → GrewBy b c q r → GrewBy a c (seen_then p q) r
by_then a b c p q (Ok x) e g = grew_both a b c p q e g
by_then a b c p q (Err x) e g = prefix_begun a b c p q e g

-- parts of a query one after another
pub parts_join : (z : Sizes) (xs ys ls ms : List ℕ) → seen_then (part_seen z xs ls) (part_seen z ys ms) ≡ part_seen z (xs ++ ys) (ls ++ ms)
parts_join z xs ys ls ms =
    ap (λ (v : List Visit). alike (record { visits = v; lengths = ls ++ ms })) (sym (flat_map-append (chunk_visits z.rows) xs ys))

pub part_then : {T E : Type 0} (z : Sizes) (xs ys ls ms : List ℕ) (a b c : AllSeen) (r : Result T E) → Grew a b (part_seen z xs ls)
    → GrewBy b c (part_seen z ys ms) r
    → GrewBy a c (part_seen z (xs ++ ys) (ls ++ ms)) r
part_then z xs ys ls ms a b c r e g =
    subst (λ (p : AllSeen). GrewBy a c p r) (parts_join z xs ys ls ms) (by_then a b c (part_seen z xs ls) (part_seen z ys ms) r e g)

pub part_cut : {T U E F : Type 0} (z : Sizes) (xs ys ls ms : List ℕ) (a b : AllSeen) (r : Result T E) (q : Result U F) → IsErr q
    → GrewBy a b (part_seen z xs ls) r
    → GrewBy a b (part_seen z (xs ++ ys) (ls ++ ms)) q
part_cut z xs ys ls ms a b r q failed g =
    subst (λ (p : AllSeen). GrewBy a b p q) (parts_join z xs ys ls ms) (by_cut a b (part_seen z xs ls) (part_seen z ys ms) r q failed g)
