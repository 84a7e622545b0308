-- Traces that grew at some servers whole, by a prefix at one, and at the others not at all.
use Rattle.std.proofs.Common.{◌≡◌, subst, Result}
use Rattle.std.specs.Result.{IsErr}
use Rattle.visit_trace.specs.Growing.{by_stopped, prefix_none, prefix_whole}
use Rattle.visit_trace.specs.Seen.{AllSeen, GrewBy, GrewPrefix, SawMore, SawPrefix, alike}

at_zero : (a b p : AllSeen) → SawPrefix a.zero b.zero p.zero → a.one ≡ b.one → a.two ≡ b.two → GrewPrefix a b p
at_zero a b p zero one two =
    let none = prefix_none a p in
    record {
      zero = zero;
      one = subst (λ s. SawPrefix a.one s p.one) one none.one;
      two = subst (λ s. SawPrefix a.two s p.two) two none.two;
    }

at_one : (a b p : AllSeen) → SawMore a.zero b.zero p.zero → SawPrefix a.one b.one p.one → a.two ≡ b.two → GrewPrefix a b p
at_one a b p zero one two =
    let whole = prefix_whole (alike a.zero) (alike b.zero) (alike p.zero) (record { zero = zero; one = zero; two = zero }) in
    let none = prefix_none a p in
    record { zero = whole.zero; one = one; two = subst (λ s. SawPrefix a.two s p.two) two none.two }

same_parts : {T E : Type 0} (a c b p q : AllSeen) (r : Result T E) → c ≡ a → q ≡ p → GrewBy c b q r → GrewBy a b p r
same_parts a c b p q r ea ep g = subst (λ t. GrewBy t b p r) ea (subst (λ t. GrewBy c b t r) ep g)

pub stopped_zero : {T E : Type 0} (a c b p q : AllSeen) (r : Result T E) → c ≡ a → q ≡ p → IsErr r → SawPrefix c.zero b.zero q.zero → c.one ≡ b.one
    → c.two ≡ b.two
    → GrewBy a b p r
stopped_zero a c b p q r ea ep failed zero one two = same_parts a c b p q r ea ep (by_stopped c b q r failed (at_zero c b q zero one two))

pub stopped_one : {T E : Type 0} (a c b p q : AllSeen) (r : Result T E) → c ≡ a → q ≡ p → IsErr r → SawMore c.zero b.zero q.zero
    → SawPrefix c.one b.one q.one
    → c.two ≡ b.two
    → GrewBy a b p r
stopped_one a c b p q r ea ep failed zero one two = same_parts a c b p q r ea ep (by_stopped c b q r failed (at_one c b q zero one two))
