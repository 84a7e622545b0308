-- The pieces of rows in slots.
use Rattle.std.proofs.Common.{◌≡◌, ◌∙◌, refl, ap, ℕ, zero, suc, ◌+◌, ◌%◌, List, [], ◌∷◌, ◌++◌, take, arith}
use Rattle.std.specs.Prelude.{None, Some}
use Rattle.replicated_share.specs.Share.{share_of}
use Rattle.onehot_column.specs.Code.{cells_at, code_of}
use Rattle.prefix_log.specs.Laws.{SharingsGiveCells}
use Rattle.prefix_log.specs.Snapshots.{firsts_of, pieces_in, seconds_of}

pub sharings_give_cells : SharingsGiveCells
sharings_give_cells w k zero entries slots le shares = record { count = refl; first = λ column. refl; second = λ column. refl }
sharings_give_cells w k (suc n) [] slots le shares = absurd (omega arith)
sharings_give_cells w k (suc n) (e ∷ es) [] le shares = let p = shares 0 e (omega arith) refl in let is : None ≡ Some p.0 = p.1 in absurd cc
sharings_give_cells w k (suc n) (e ∷ es) (slot ∷ slots) le shares =
    let p = shares 0 e (omega arith) refl in
    let is : slot ≡ Some p.0 = p.1 in
    let rest = sharings_give_cells w k n es slots (omega arith) (λ place entry lt at. shares (suc place) entry (omega arith) at) in
    rw is record {
      count = ap suc rest.count;
      first = λ column. ap (λ (l : List ℕ). cells_at w column l ++ firsts_of w (pieces_in (take n slots)) column) p.2.first
          ∙ ap (λ (l : List ℕ). cells_at w column (share_of k e.1 (code_of w e.0)) ++ l) (rest.first column);
      second = λ column. ap (λ (l : List ℕ). cells_at w column l ++ seconds_of w (pieces_in (take n slots)) column) p.2.second
          ∙ ap (λ (l : List ℕ). cells_at w column (share_of ((k + 1) % 3) e.1 (code_of w e.0)) ++ l) (rest.second column);
    }
