-- What joints have, at any time: no more than what is gathered, ended and copied of flows that have more.
use Rattle.std.proofs.Common.{◌≡◌, ℕ, true, inl, inr, List, [], ◌∷◌, map, Option, Some, None, option_and_then, ap, refl, sym, ◌∙◌}
use Rattle.std.specs.List.{list_all}
use Rattle.std.proofs.lemmas.Bool.{and_from, and_parts, false≢true}
use Rattle.wdl_base.specs.declared.name.Key.{Key}
use Rattle.wdl_value.specs.declared.value.Value.{Value}
use Rattle.wdl_value.specs.declared.value.Value.TheVariants as v
use Rattle.wdl_value.specs.Tables.{Row}
use Rattle.wdl_typed.specs.declared.task.TDecl.{TDecl}
use Rattle.wdl_typed.specs.Bodies.{Library}
use Rattle.wdl_typed.specs.Declarations.{plain_key}
use Rattle.wdl_typed.specs.Flow.{Ended, Flowing, Known, all_values, env_of, gathered_call, gathered_name, has_ended, output_of, value_in}
use Rattle.wdl_typed.specs.Journal.{keys_distinct}
use Rattle.wdl_typed.specs.KnownTypes.{is_some}
use Rattle.wdl_typed.specs.Scope.{lookup}
use Rattle.flow_laws.specs.Below.{Stays}
use Rattle.flow_laws.proofs.KnownNames.{NamesStay, lookup_stays}
use Rattle.flow_laws.proofs.Under.{CallsStay, ended_stays}
use Rattle.net_laws.specs.Net.{Mark, Slot, ended_in, find, find_call, known_in, slot_keys}
use Rattle.net_laws.specs.Growing.{AllEnding, AllGathered, Copied, Ending, Gathered, Item, MarksCopied, OutputsCopied, Rule, SlotsCopied, State, are_set, is_set}
use Rattle.net_laws.proofs.Further.{keys_known}
use Rattle.net_laws.proofs.Lookups.{ended_at, looked_up, value_at}
use Rattle.net_laws.proofs.Finished.{cons_parts}

unset_stays : (o p : Option Value) → o ≡ None → Stays o p
unset_stays o p e x h = cc

both_stay : (o p : Option Value) (q r : Option (List Value)) → Stays o p → Stays q r
    → Stays (option_and_then (λ (x : Value). option_and_then (λ (ys : List Value). Some (x ∷ ys)) q) o) (option_and_then (λ (x : Value). option_and_then (λ (ys : List Value). Some (x ∷ ys)) r) p)
both_stay (Some x) p (Some ys) r s t xs e =
    ap (option_and_then (λ (z : Value). option_and_then (λ (zs : List Value). Some (z ∷ zs)) r)) (s x refl) ∙ ap (option_and_then (λ (zs : List Value). Some (x ∷ zs))) (t ys refl) ∙ e
both_stay (Some x) p None r s t xs e = cc
both_stay None p q r s t xs e = cc

module _ (lib : Library) (site : List ℕ) (table : List Row) (desc : ℕ → Rule → Type 0) (st : State) where
  unset_call : (c : ℕ) → st.cells c ≡ None → is_set st c ≡ true → ⊥
  unset_call c e h = false≢true (sym (ap is_some e) ∙ h)

  -- ---- a value that is copied, and a mark

  value_copied : (from c : ℕ) → Copied lib site table desc st from c → (o : Option Value) → Stays (st.cells from) o → Stays (st.cells c) o
  value_copied from c (u, inl w) o h = unset_stays (st.cells c) o w.keeps.1
  value_copied from c (u, inr w) o h = λ x e. h x (sym w.same ∙ e)

  mark_copied : (from c : ℕ) → Copied lib site table desc st from c → is_set st c ≡ true → is_set st from ≡ true
  mark_copied from c (u, inl w) h = absurd (unset_call c w.keeps.1 h)
  mark_copied from c (u, inr w) h = w.set

  pub slots_stay : (is ss : List Slot) (ls : List Known) → SlotsCopied lib site table desc st is ss → NamesStay (map (known_in st.cells) is) ls → NamesStay (map (known_in st.cells) ss) ls
  slots_stay [] [] ls h j = j
  slots_stay [] (s ∷ ss) ls h j = absurd h
  slots_stay (i ∷ is) [] ls h j = absurd h
  slots_stay (i ∷ is) (s ∷ ss) [] h j = j
  slots_stay (i ∷ is) (s ∷ ss) (l ∷ ls) h j =
      (record { key = h.0 ∙ j.0.key; value = value_copied i.cell s.cell h.1 l.value j.0.value }, slots_stay is ss ls h.2 j.1)

  pub marks_stay : (is ms : List Mark) (es : List Ended) → MarksCopied lib site table desc st is ms → CallsStay (map (ended_in st.cells) is) es → CallsStay (map (ended_in st.cells) ms) es
  marks_stay [] [] es h j = j
  marks_stay [] (m ∷ ms) es h j = absurd h
  marks_stay (i ∷ is) [] es h j = absurd h
  marks_stay (i ∷ is) (m ∷ ms) [] h j = j
  marks_stay (i ∷ is) (m ∷ ms) (e ∷ es) h j =
      (record { call = h.0 ∙ j.0.call; ended = λ t. j.0.ended (mark_copied i.cell m.cell h.1 t) }, marks_stay is ms es h.2 j.1)

  -- ---- the value of a name

  found_stays : (names : List Slot) (ls : List Known) → keys_distinct (slot_keys names) ≡ true → NamesStay (map (known_in st.cells) names) ls → (key : Key) (c : ℕ) → find names key ≡ Some c
      → Stays (st.cells c) (lookup (env_of ls) key)
  found_stays names ls d h key c e x is =
      lookup_stays (map (known_in st.cells) names) ls h (ap keys_distinct (keys_known st.cells names) ∙ d) key x (looked_up st.cells names d key ∙ ap (value_at st.cells) e ∙ is)

  pub outputs_stay : (call : List ℕ) (names : List Slot) (ls : List Known) → keys_distinct (slot_keys names) ≡ true → NamesStay (map (known_in st.cells) names) ls → (ds : List TDecl) (ss : List Slot)
      → OutputsCopied lib site table desc st call ds names ss → NamesStay (map (known_in st.cells) ss) (map (output_of ls call) ds)
  outputs_stay call names ls d h [] [] j = tt
  outputs_stay call names ls d h [] (s ∷ ss) j = absurd j
  outputs_stay call names ls d h (x ∷ xs) [] j = absurd j
  outputs_stay call names ls d h (x ∷ xs) (s ∷ ss) j = (
    record { key = j.0; value = value_copied j.1.0 s.cell j.1.2 (lookup (env_of ls) (plain_key x.name)) (found_stays names ls d h (plain_key x.name) j.1.0 j.1.1) },
    outputs_stay call names ls d h xs ss j.2,
  )

  -- ---- items

  -- Each item has no more than its flow, under the same names.
  abbrev pub ItemsStay : List Key → List Item → List Flowing → Type 0
  ItemsStay keys [] [] = Unit {0}
  ItemsStay keys [] (f ∷ fs) = ⊥
  ItemsStay keys (q ∷ qs) [] = ⊥
  ItemsStay keys (q ∷ qs) (f ∷ fs) =
      (slot_keys q.given.names ≡ keys) × NamesStay (map (known_in st.cells) q.given.names) f.names × CallsStay (map (ended_in st.cells) q.given.calls) f.calls × ItemsStay keys qs fs

  values_stay : (keys : List Key) → keys_distinct keys ≡ true → (key : Key) (qs : List Item) (fs : List Flowing) → ItemsStay keys qs fs → (cs : List ℕ) → map (λ (q : Item). find q.given.names key) qs ≡ map (λ (c : ℕ). Some c) cs
      → Stays (all_values (map st.cells cs)) (all_values (map (value_in key) fs))
  values_stay keys d key [] [] h [] e = λ xs i. i
  values_stay keys d key [] [] h (c ∷ cs) e = cc
  values_stay keys d key [] (f ∷ fs) h cs e = absurd h
  values_stay keys d key (q ∷ qs) [] h cs e = absurd h
  values_stay keys d key (q ∷ qs) (f ∷ fs) h [] e = cc
  values_stay keys d key (q ∷ qs) (f ∷ fs) h (c ∷ cs) e =
      let p = cons_parts e in
      both_stay (st.cells c) (value_in key f) (all_values (map st.cells cs)) (all_values (map (value_in key) fs))
      (found_stays q.given.names f.names (ap keys_distinct h.0 ∙ d) h.1 key c p.0) (values_stay keys d key qs fs h.3 cs p.1)

  listed : (cs : List ℕ) (c : ℕ) → Gathered lib site table desc st cs c → (o : Option (List Value)) → Stays (all_values (map st.cells cs)) o → Stays (st.cells c) (option_and_then (λ (xs : List Value). Some (v.List xs)) o)
  listed cs c (u, inl w) o h = unset_stays (st.cells c) _ w.keeps.1
  listed cs c (u, inr w) o h = λ x e. ap (option_and_then (λ (xs : List Value). Some (v.List xs))) (h w.values w.set) ∙ sym w.value ∙ e

  pub gathered_stay : (keys : List Key) → keys_distinct keys ≡ true → (qs : List Item) (fs : List Flowing) → ItemsStay keys qs fs → (ks : List Key) (ss : List Slot) → AllGathered lib site table desc st qs ks ss
      → NamesStay (map (known_in st.cells) ss) (map (gathered_name fs) ks)
  gathered_stay keys d qs fs h [] [] j = tt
  gathered_stay keys d qs fs h [] (s ∷ ss) j = absurd j
  gathered_stay keys d qs fs h (k ∷ ks) [] j = absurd j
  gathered_stay keys d qs fs h (k ∷ ks) (s ∷ ss) j = (
    record { key = j.0; value = listed j.1.0 s.cell j.1.2 (all_values (map (value_in k) fs)) (values_stay keys d k qs fs h j.1.0 j.1.1) },
    gathered_stay keys d qs fs h ks ss j.2,
  )

  all_end : (keys : List Key) (call : List ℕ) (qs : List Item) (fs : List Flowing) → ItemsStay keys qs fs → (cs : List ℕ) → map (λ (q : Item). find_call q.given.calls call) qs ≡ map (λ (c : ℕ). Some c) cs → are_set st cs ≡ true
      → list_all (λ (f : Flowing). has_ended f.calls call) fs ≡ true
  all_end keys call [] [] h cs e t = refl
  all_end keys call [] (f ∷ fs) h cs e t = absurd h
  all_end keys call (q ∷ qs) [] h cs e t = absurd h
  all_end keys call (q ∷ qs) (f ∷ fs) h [] e t = cc
  all_end keys call (q ∷ qs) (f ∷ fs) h (c ∷ cs) e t =
      let p = cons_parts e in
      let b = and_parts (is_set st c) (are_set st cs) t in
      and_from (has_ended f.calls call) (list_all (λ (g : Flowing). has_ended g.calls call) fs)
      (ended_stays (map (ended_in st.cells) q.given.calls) f.calls h.2 call (ended_at st.cells q.given.calls call ∙ ap (λ (o : Option ℕ). is_some (value_at st.cells o)) p.0 ∙ b.0)) (all_end keys call qs fs h.3 cs p.1 b.1)

  pub done_set : (ds : List ℕ) (d : ℕ) → Ending lib site table desc st ds d → is_set st d ≡ true → are_set st ds ≡ true
  done_set ds d (u, inl w) h = absurd (unset_call d w.keeps.1 h)
  done_set ds d (u, inr w) h = w.set

  pub ending_stay : (keys : List Key) (qs : List Item) (fs : List Flowing) → ItemsStay keys qs fs → (cs : List (List ℕ)) (ms : List Mark) → AllEnding lib site table desc st qs cs ms
      → CallsStay (map (ended_in st.cells) ms) (map (gathered_call fs) cs)
  ending_stay keys qs fs h [] [] j = tt
  ending_stay keys qs fs h [] (m ∷ ms) j = absurd j
  ending_stay keys qs fs h (c ∷ cs) [] j = absurd j
  ending_stay keys qs fs h (c ∷ cs) (m ∷ ms) j = (
    record { call = j.0; ended = λ t. all_end keys c qs fs h j.1.0 j.1.1 (done_set j.1.0 m.cell j.1.2 t) },
    ending_stay keys qs fs h cs ms j.2,
  )
