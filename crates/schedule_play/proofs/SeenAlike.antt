-- What the servers see of queries follows from their shapes.
use Rattle.std.proofs.Common.{◌≡◌, ◌∙◌, refl, sym, ap, subst, ℕ, List, [], ◌∷◌, map}
use Rattle.query_plan.specs.Query.{shaped}
use Rattle.query_plan.specs.declared.query.Query.{Query}
use Rattle.table_schema.specs.declared.shapes.Shape.{Shape}
use Rattle.table_schema.specs.declared.widths.Widths.{Widths}
use Rattle.visit_trace.specs.Seen.{AllSeen, Grew, SawMore, Seen}
use Rattle.visit_trace.specs.declared.sizes.Sizes.{Sizes}
use Rattle.schedule_play.specs.Laws.{SeenAlike}
use Rattle.schedule_play.specs.Traces.{asked_sizes, traces_of}

-- the sizes of a shape
abbrev of_shape : Widths → ℕ → Shape → Sizes
of_shape w n shape = record { rows = n; widths = w; shape = shape }

by_shapes : (w : Widths) (n : ℕ) (queries : List Query) → asked_sizes w n queries ≡ map (of_shape w n) (map shaped queries)
by_shapes w n [] = refl
by_shapes w n (q ∷ qs) = ap (λ (zs : List Sizes). of_shape w n (shaped q) ∷ zs) (by_shapes w n qs)

-- one server, and all three, that saw the same more
same_seen : (a b d p : Seen) → SawMore a b p → SawMore a d p → b ≡ d
same_seen a b d p f g =
    ap (λ v. record { visits = v; lengths = b.lengths }) (f.visits ∙ sym g.visits)
    ∙ ap (λ (l : List ℕ). record { visits = d.visits; lengths = l }) (f.lengths ∙ sym g.lengths)

pub same_all : (a b d p : AllSeen) → Grew a b p → Grew a d p → b ≡ d
same_all a b d p f g =
    ap (λ (s : Seen). record { zero = s; one = b.one; two = b.two }) (same_seen a.zero b.zero d.zero p.zero f.zero g.zero)
    ∙ ap (λ (s : Seen). record { zero = d.zero; one = s; two = b.two }) (same_seen a.one b.one d.one p.one f.one g.one)
    ∙ ap (λ (s : Seen). record { zero = d.zero; one = d.one; two = s }) (same_seen a.two b.two d.two p.two f.two g.two)

pub seen_alike : SeenAlike
seen_alike w n queries others same before after last f g =
    let sizes : asked_sizes w n others ≡ asked_sizes w n queries =
    by_shapes w n others ∙ sym (ap (map (of_shape w n)) same) ∙ sym (by_shapes w n queries) in
    same_all before after last (traces_of (asked_sizes w n queries)) f
    (subst (λ (zs : List Sizes). Grew before last (traces_of zs)) sizes g)
