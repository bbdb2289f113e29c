-- A part of the groups has taken a combination in: what became of all of them.
use Rattle.std.proofs.Common.{ℕ, ◌≡◌, ◌++◌, Bool, true, false, List, [], ◌∷◌, get_or, ap, sym, ◌∙◌, subst}
use Rattle.std.proofs.Common.{append_assoc}
use Rattle.std.specs.Prelude.{All}
use Rattle.std.specs.declared.cmp.Ordering.{Ordering}
use Rattle.std.specs.declared.cmp.Ordering.TheVariants.{Less, Greater}
use Rattle.std.proofs.lemmas.List.Elements.{All-append}
use Rattle.row_values.specs.Statements.{Statement}
use Rattle.row_values.specs.declared.values.Value.{Value}
use Rattle.row_values.specs.declared.statement.Item.{Item}
use Rattle.plan_operators.specs.Keys.{keys_rank}
use Rattle.plan_operators.specs.declared.keys.ReadyKey.{ReadyKey}
use Rattle.statement_meaning.specs.Meaning.{group_keys, is_same_group, keys_order}
use Rattle.result_shape.specs.Groups.{AreGroupsOf, AreReadyFor, HasPlace, IsBegun, IsGrown, IsTakenIn}
use Rattle.result_shape.specs.Tallies.{AreTalliesOf}
use Rattle.result_shape.specs.declared.groups.Group.{Group}
use Rattle.result_shape.specs.declared.tallies.ReadyItem.{ReadyItem}
use Rattle.result_shape.proofs.GrowingGroups.{group_begins, group_grows, none_of_groups}

split_apart : (P xs ys S : List Group) → P ++ ((xs ++ ys) ++ S) ≡ (P ++ xs) ++ (ys ++ S)
split_apart P xs ys S =
    ap (λ (gs : List Group). P ++ gs) (append_assoc xs ys S) ∙ sym (append_assoc P xs (ys ++ S))

module _ (q : Statement) (tables : List (List (List Value))) (keys : List ReadyKey) (items : List ReadyItem)
    (ready : AreReadyFor q tables keys items) (h : List (List ℕ)) (c : List ℕ) (P S : List Group) where
  told : (o : Ordering) (gs : List Group) → All (λ (group : Group). keys_rank keys group.first c ≡ o) gs
      → All (λ (group : Group). keys_order tables (group_keys q.groups) group.first c ≡ o) gs
  told o gs a = λ k d l. sym (ready.keys_are (get_or gs k d).first c) ∙ a k d l

  -- where a group isn't there, no member of any group is in it
  pub nothing_there : (old : List Group) → AreGroupsOf q tables h (P ++ (old ++ S))
      → All (λ (group : Group). keys_rank keys group.first c ≡ Less) P
      → All (λ (group : Group). keys_rank keys group.first c ≡ Greater) S → HasPlace keys c old
      → All (λ member. is_same_group tables q.groups member c ≡ false) h
  nothing_there old a l r p =
      none_of_groups tables q h c (P ++ p.before) (p.behind ++ S)
      (subst (AreGroupsOf q tables h) (ap (λ (gs : List Group). P ++ (gs ++ S)) p.parts
      ∙ split_apart P p.before p.behind S) a)
      (told Less (P ++ p.before) (All-append (λ (group : Group). keys_rank keys group.first c ≡ Less) P p.before l p.less))
      (told Greater (p.behind ++ S) (All-append (λ (group : Group). keys_rank keys group.first c
      ≡ Greater) p.behind S p.greater r))

  begun : (old new : List Group) → AreGroupsOf q tables h (P ++ (old ++ S))
      → All (λ (group : Group). keys_rank keys group.first c ≡ Less) P
      → All (λ (group : Group). keys_rank keys group.first c ≡ Greater) S → IsBegun keys items c old new
      → AreGroupsOf q tables (h ++ c ∷ []) (P ++ (new ++ S))
  begun old new a l r t =
      subst (AreGroupsOf q tables (h ++ c ∷ [])) (sym (split_apart P t.place.before (t.made ∷ t.place.behind) S)
      ∙ ap (λ (gs : List Group). P ++ (gs ++ S)) (sym t.new_is))
      (group_begins tables q h c (P ++ t.place.before) (t.place.behind ++ S) t.made
      (subst (AreGroupsOf q tables h) (ap (λ (gs : List Group). P ++ (gs ++ S)) t.place.parts
      ∙ split_apart P t.place.before t.place.behind S) a)
      (told Less (P ++ t.place.before) (All-append (λ (group : Group). keys_rank keys group.first c
      ≡ Less) P t.place.before l t.place.less))
      (told Greater (t.place.behind ++ S) (All-append (λ (group : Group). keys_rank keys group.first c
      ≡ Greater) t.place.behind S t.place.greater r))
      t.first
      (subst (λ (shown : List Item). AreTalliesOf tables c (c ∷ []) shown t.made.tallies.items) ready.items_are
      (t.tallies tables ready.columns)))

  grown : (old new : List Group) → AreGroupsOf q tables h (P ++ (old ++ S)) → IsGrown keys items c old new
      → AreGroupsOf q tables (h ++ c ∷ []) (P ++ (new ++ S))
  grown old new a t =
      subst (AreGroupsOf q tables (h ++ c ∷ [])) (sym (split_apart P t.before (t.made ∷ t.behind) S)
      ∙ ap (λ (gs : List Group). P ++ (gs ++ S)) (sym t.new_is))
      (group_grows tables q h c (P ++ t.before) (t.behind ++ S) t.group t.made
      (subst (AreGroupsOf q tables h) (ap (λ (gs : List Group). P ++ (gs ++ S)) t.old_is
      ∙ split_apart P t.before (t.group ∷ t.behind) S) a)
      (sym (ready.keys_are t.group.first c) ∙ t.ties)
      t.first
      (subst (λ (shown : List Item). (members : List (List ℕ))
      → AreTalliesOf tables t.group.first members shown t.group.tallies.items
      → AreTalliesOf tables t.group.first (members ++ c ∷ []) shown t.made.tallies.items) ready.items_are
      (λ members. t.tallies tables members ready.columns)))

  -- the groups of one more combination
  pub taken_in : (old new : List Group) → AreGroupsOf q tables h (P ++ (old ++ S))
      → All (λ (group : Group). keys_rank keys group.first c ≡ Less) P
      → All (λ (group : Group). keys_rank keys group.first c ≡ Greater) S
      → (begins : Bool) → IsTakenIn keys items c old new begins → AreGroupsOf q tables (h ++ c ∷ []) (P ++ (new ++ S))
  taken_in old new a l r true t = begun old new a l r t
  taken_in old new a l r false t = grown old new a t
