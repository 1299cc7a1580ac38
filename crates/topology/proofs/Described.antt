-- What holds of every hall that lines describe.
use Rattle.std.proofs.Common.{◌≡◌, ℕ, zero, suc, ◌<◌, ◌≤◌, Bool, true, false, List, [], length, get_or, vec_items, sym, ap, ◌∙◌, subst, ⊎_elim, arith}
use Rattle.std.specs.List.{All}
use Rattle.std.proofs.lemmas.List.Elements.{All-weaker}
use Rattle.std.proofs.lemmas.List.{get_or-map}
use Rattle.std.proofs.lemmas.Bool.{and_parts, cases_order, MatchBool-at_true, MatchBool-at_false}
use Rattle.protocol.specs.declared.facts.Own.{Own}
use Rattle.protocol.specs.declared.facts.Site.{Site}
use Rattle.protocol.specs.Rows.{has_wire, places_of}
use Rattle.protocol.specs.Wiring.{is_sound}
use Rattle.places.proofs.Named.{rising_and_whole}
use Rattle.model.specs.Halls.{Hall, Way, stay, step, is_wired, own_of, Sound, NamesDiffer, WiresWithin, WiredBothWays, HangTogether}
use Rattle.topology.specs.declared.lines.Line.{Line}
use Rattle.topology.specs.Lamps.{hall_in, Placed, OfMost}
use Rattle.topology.specs.Files.{names_in, ends_at, EndsBelow, Describes, Breaks}
use Rattle.topology.specs.Checks.{Apart, RightEnds, Checked, Stands}
use Rattle.topology.specs.Reach.{WhetherJoined}
use Rattle.topology.specs.Reading.{hall_of, AcceptedIsSound}
use Rattle.topology.proofs.Ways.{way_within}
use Rattle.topology.proofs.Spreads.{head_of}
use Rattle.topology.proofs.Ends.{ends_turned, ends_below, ends_right, right_below, rises_apart}

module _ {lines : List Line} {h : Hall} (d : Describes lines h) where
  wired_at : (i j : ℕ) → i < h.count → is_wired h i j ≡ has_wire (ends_at i lines) j
  wired_at i j l = ap (λ ps. has_wire ps j) (d.wires i l) ∙ (rising_and_whole (ends_at i lines)).1 j

  pub described_within : WiresWithin h
  described_within a b p = ends_below h.count a b lines d.ends (sym (wired_at a b p.0) ∙ p.1)

  pub described_both : WiredBothWays h
  described_both a b p =
      wired_at b a (described_within a b p) ∙ ends_turned b a lines ∙ sym (wired_at a b p.0) ∙ p.1

  pub described_differ : Apart (names_in lines) (length (names_in lines)) → NamesDiffer h
  described_differ apart a b p =
      let same = sym (d.names a p.0) ∙ p.2 ∙ d.names b p.1 in
      ⊎_elim
      (λ e. e)
      (λ o. ⊎_elim (λ l. absurd (apart a b (l, omega (arith, d.count), same))) (λ l. absurd (apart b a (l, omega (arith, d.count), sym same))) o)
      (cases_order a b)

  -- where it is sound too, each wire is right
  pub sound_right : Sound h → All (RightEnds h.count) lines
  sound_right s =
      ends_right h.count lines d.ends
      (λ i l e. rises_apart (own_of h i) 0 (h.neighbours i) (and_parts _ _ (s.sites i l)).1 (wired_at i i l ∙ e))

-- two halls that lines describe have the same ways
module _ {lines : List Line} {h g : Hall} (d : Describes lines h) (e : Describes lines g) where
  way_over : {a : ℕ} → a < h.count → (n : ℕ) {b : ℕ} → Way h a b n → Way g a b n
  way_over l zero stay = stay
  way_over l (suc n) (step {b} {c} w o) =
      let inside : b < h.count = way_within h (described_within d) l n w in
      step (way_over l n w) (wired_at e b c (omega (arith, d.count, e.count)) ∙ sym (wired_at d b c inside) ∙ o)

  pub joined_over : HangTogether h → HangTogether g
  joined_over joined a b p =
      let from : a < h.count = omega (arith, d.count, e.count, p.0) in
      let to : b < h.count = omega (arith, d.count, e.count, p.1) in
      joined a b (from, to, λ n w. p.2 n (way_over from n w))

-- lines with a wire that is not right break a rule
pub breaks_right : {lines : List Line} {names : List ℕ} → names ≡ names_in lines → (All (RightEnds (length names)) lines → ⊥) → Breaks lines
breaks_right {lines} all fails h d s = fails (subst (λ n. All (RightEnds n) lines) (d.count ∙ ap length (sym all)) (sound_right d s))

-- the answer whether lamps hang together, of sites that were lent as ys
module _ {sites ys : List Site} {all : Bool} (lent : ys ≡ sites) (whether : WhetherJoined ys all) (most : ℕ) where
  pub when_joined : all ≡ true → HangTogether (hall_in most sites)
  when_joined t = subst (λ xs. HangTogether (hall_in most xs)) lent (MatchBool-at_true _ _ t (whether most))

  when_not : all ≡ false → HangTogether (hall_in most sites) → ⊥
  when_not f = subst (λ xs. HangTogether (hall_in most xs) → ⊥) lent (MatchBool-at_false _ _ f (whether most))

  pub breaks_joined : {lines : List Line} → Describes lines (hall_in most sites) → all ≡ false → Breaks lines
  breaks_joined e f h d s = when_not f (joined_over d e s.joined)

-- the hall of the sites that were made
module _ {lines : List Line} {most : ℕ} {names : List ℕ} {sites : List Site} (checked : Checked lines most names) (stands : Stands most names lines sites) where
  pub stands_some : 1 ≤ length sites
  stands_some = omega (arith, stands.count, checked.named.some)

  pub stands_few : length sites ≤ most
  stands_few = omega (arith, stands.count, checked.named.few)

  pub stands_placed : Placed sites
  stands_placed i d l = ap (λ own. own.place) (stands.each i d (omega (arith, stands.count))).0

  pub stands_of_most : OfMost most sites
  stands_of_most i d l = ap (λ own. own.most) (stands.each i d (omega (arith, stands.count))).0

  pub stands_described : Describes lines (hall_in most sites)
  stands_described =
      let d = head_of sites stands_some in
      record {
        most = checked.headed.first;
        fit = checked.headed.fit;
        count = stands.count ∙ ap length checked.all;
        names = λ i l.
            get_or-map (λ s. s.own.name) sites i d 0 l ∙ ap (λ own. own.name) (stands.each i d (omega (arith, stands.count))).0 ∙ ap (λ ns. get_or ns i 0) checked.all;
        wires = λ i l. get_or-map places_of sites i d [] l ∙ (stands.each i d (omega (arith, stands.count))).1;
        ends = All-weaker (RightEnds (length sites)) (EndsBelow (length sites)) (right_below (length sites)) lines
            (subst (λ n. All (RightEnds n) lines) (sym stands.count) checked.right);
      }

  pub stands_differ : NamesDiffer (hall_in most sites)
  stands_differ = described_differ stands_described (subst (λ ns. Apart ns (length ns)) checked.all checked.named.apart)

same_own : (own : Own) (most place name : ℕ) → own.most ≡ most → own.place ≡ place → name ≡ own.name → record { most = most; place = place; name = name } ≡ own
same_own own most place name m p n = rw (← m, ← p, n)

-- a topology's own facts make its hall sound
pub sound_of : AcceptedIsSound
sound_of t =
    let long = t.sites.ok.0 in
    let sites = vec_items t.sites in
    record {
      some = omega (arith, t.some, long);
      few = omega (arith, t.few, long);
      names = t.names;
      sites = λ a l.
          let d = head_of sites (omega arith) in
          let s = get_or sites a d in
          ap (λ ps. is_sound (own_of (hall_of t) a) ps) (get_or-map places_of sites a d [] l)
          ∙ ap (λ own. is_sound own (places_of s)) (same_own s.own t.most a _ (t.bounded a d l) (t.placed a d l) (get_or-map (λ s. s.own.name) sites a d 0 l))
          ∙ s.sound;
      within = t.within;
      both = t.both;
      joined = t.joined;
    }
