-- A packet text is read exactly where the grammar spells it.
use Rattle.std.proofs.Common.{◌≡◌, ℕ, Bool, true, false, cond, List, [], ◌∷◌, ◌++◌, drop, Option, Some, None, codes, refl, sym, ap, subst, ◌∙◌, append_assoc}
use Rattle.std.specs.Prelude.{bytes_eq, ◌≢◌}
use Rattle.std.proofs.lemmas.Bool.{false≢true}
use Rattle.std.proofs.lemmas.List.{append-nil}
use Rattle.std.proofs.lemmas.Slice.Eq.{bytes_eq-Decides}
use Rattle.pf_rules.specs.declared.parts.Direction.{Direction}
use Rattle.pf_rules.specs.declared.parts.Direction.TheVariants.{In, Out}
use Rattle.pf_rules.specs.Names.{Name}
use Rattle.pf_rules.specs.declared.flags.TcpFlags.{TcpFlags}
use Rattle.pf_rules.specs.declared.profile.Profile.TheVariants.{One}
use Rattle.pf_rules.specs.Words.{is_interface_name, protocol_of, flags_of}
use Rattle.pf_eval.specs.Packets.{PacketValue}
use Rattle.pf_eval.specs.PacketTexts.{Word, Read, ◌>>=◌, begins, word_at, word_after, value, keyed, optional, direction_of, name_of, address_of, port_number_of, type_number_of, put_name, groups_at, End, end_at, agrees, said_flags, at_end, packet_at, words, has_outer_blank, packet_of}
use Rattle.pf_eval.specs.PacketGrammar.{IsKeyed, Keyed, IsOptional, Missing, Present, IsDirection, InWord, OutWord, AreGroups, NoGroup, OneGroup, IsEnd, EndOf, IsPacket, IsPacketText}
use Rattle.pf_eval.proofs.Spaces.{words_are, no_outer_blank, are_spaced}

-- ---- steps

some_is : {X : Type 0} (x y : X) → Some x ≡ Some y → x ≡ y
some_is x y e = cc

bind_some : {A B : Type 0} (o : Option A) (f : A → Option B) (x : B) → (o >>= f) ≡ Some x → (a : A) × (o ≡ Some a) × (f a ≡ Some x)
bind_some (Some a) f x e = (a, refl, e)
bind_some None f x e = absurd cc

-- what was taken from the front is of the grammar
record Took {V : Type 0} (Is : List Word → V → Type 0) (ws : List Word) (x : V × List Word) : Type 0 where
  piece : List Word
  whole : ws ≡ piece ++ x.1
  is : Is piece x.0

begins_is : (key : Word) (ws : List Word) → begins key ws ≡ true → ws ≡ key ∷ drop 1 ws
begins_is key [] e = absurd (false≢true e)
begins_is key (w ∷ ws) e = ap (λ (v : Word). v ∷ ws) ((bytes_eq-Decides w key).0 e)

same_key : (key : Word) → bytes_eq key key ≡ true
same_key key = (bytes_eq-Decides key key).1 refl

-- ---- KEY VALUE

keyed_took : {X : Type 0} (key : Word) (read : Word → Option X) (ws : List Word) (x : X × List Word) → keyed key read ws ≡ Some x → Took (IsKeyed key read) ws x
unfolding keyed word_after
keyed_took key read ws x e = cases (begins key ws) refl e
  where
    cases : (b : Bool) → begins key ws ≡ b → (cond b (word_at (drop 1 ws)) None >>= λ word. read word.0 >>= λ y. Some (y, word.1)) ≡ Some x → Took (IsKeyed key read) ws x
    cases false h e = absurd cc
    cases true h e = behind (drop 1 ws) (begins_is key ws h) e
      where
        behind : (us : List Word) → ws ≡ key ∷ us → (word_at us >>= λ word. read word.0 >>= λ y. Some (y, word.1)) ≡ Some x → Took (IsKeyed key read) ws x
        behind [] same e = absurd cc
        behind (u ∷ us) same e =
            let a = bind_some (read u) (λ y. Some (y, us)) x e in
            subst (λ z. Took (IsKeyed key read) ws z) (some_is (a.0, us) x a.2) (record { piece = key ∷ u ∷ []; whole = same; is = Keyed u a.0 a.1 })

keyed_reads : {X : Type 0} (key : Word) (read : Word → Option X) (ws rest : List Word) (x : X) → IsKeyed key read ws x → keyed key read (ws ++ rest) ≡ Some (x, rest)
unfolding keyed word_after
keyed_reads key read _ rest _ (Keyed word x e) = rw (same_key key, e) refl

-- ---- [KEY VALUE]

optional_took : {X : Type 0} (key : Word) (read : Word → Option X) (ws : List Word) (x : Option X × List Word) → optional key read ws ≡ Some x → Took (IsOptional key read) ws x
unfolding optional
optional_took {X} key read ws x e = cases (begins key ws) refl e
  where
    cases : (b : Bool) → begins key ws ≡ b → cond b (keyed key read ws >>= λ r. Some (Some r.0, r.1)) (Some (None, ws)) ≡ Some x → Took (IsOptional key read) ws x
    cases false h e = subst (λ z. Took (IsOptional key read) ws z) (some_is {X = Option X × List Word} (None, ws) x e) (record { piece = []; whole = refl; is = Missing })
    cases true h e =
        let a = bind_some (keyed key read ws) (λ r. Some (Some r.0, r.1)) x e in
        let t = keyed_took key read ws a.0 a.1 in
        subst (λ z. Took (IsOptional key read) ws z) (some_is {X = Option X × List Word} (Some a.0.0, a.0.1) x a.2) (record { piece = t.piece; whole = t.whole; is = Present t.piece a.0.0 t.is })

optional_reads : {X : Type 0} (key : Word) (read : Word → Option X) (ws rest : List Word) (x : Option X) → IsOptional key read ws x → begins key rest ≡ false → optional key read (ws ++ rest) ≡ Some (x, rest)
unfolding optional
optional_reads key read _ rest _ Missing ends = rw ends refl
optional_reads key read _ rest _ (Present _ _ (Keyed word x e)) ends = rw (same_key key, keyed_reads key read (key ∷ word ∷ []) rest x (Keyed word x e)) refl

-- ---- the parts of a packet

direction_took : (ws : List Word) (x : Direction × List Word) → value direction_of ws ≡ Some x → Took IsDirection ws x
unfolding value
direction_took [] x e = absurd cc
direction_took (w ∷ ws) x e = cases (bytes_eq w (codes "in")) (bytes_eq w (codes "out")) refl refl e
  where
    direction_read : (word : Word) (d : Direction) → w ≡ word → IsDirection (word ∷ []) d → Some (d, ws) ≡ Some x → Took IsDirection (w ∷ ws) x
    direction_read word d same is e = subst (λ z. Took IsDirection (w ∷ ws) z) (some_is (d, ws) x e) (record { piece = word ∷ []; whole = ap (λ (v : Word). v ∷ ws) same; is = is })

    cases : (a b : Bool) → bytes_eq w (codes "in") ≡ a → bytes_eq w (codes "out") ≡ b → (cond a (Some In) (cond b (Some Out) None) >>= λ y. Some (y, ws)) ≡ Some x → Took IsDirection (w ∷ ws) x
    cases true b ea eb e = direction_read (codes "in") In ((bytes_eq-Decides w (codes "in")).0 ea) InWord e
    cases false true ea eb e = direction_read (codes "out") Out ((bytes_eq-Decides w (codes "out")).0 eb) OutWord e
    cases false false ea eb e = absurd cc

direction_reads : (ws rest : List Word) (d : Direction) → IsDirection ws d → value direction_of (ws ++ rest) ≡ Some (d, rest)
unfolding value
direction_reads _ rest _ InWord = refl
direction_reads _ rest _ OutWord = refl

put_some : (name : Word) (r : Read (List Word)) (x : List Word × List Word) → put_name name r ≡ Some x → (y : List Word × List Word) × (r ≡ Some y) × ((name ∷ y.0, y.1) ≡ x)
put_some name None x e = absurd cc
put_some name (Some y) x e = (y, refl, some_is (name ∷ y.0, y.1) x e)

name_some : (w name : Word) → name_of w ≡ Some name → (is_interface_name One name ≡ true) × (w ≡ name)
name_some w name e = cases (is_interface_name One w) refl e
  where
    cases : (b : Bool) → is_interface_name One w ≡ b → cond b (Some w) None ≡ Some name → (is_interface_name One name ≡ true) × (w ≡ name)
    cases true h e = (subst (λ (n : Word). is_interface_name One n ≡ true) (some_is w name e) h, some_is w name e)
    cases false h e = absurd cc

name_reads : (name : Word) → is_interface_name One name ≡ true → name_of name ≡ Some name
name_reads name e = rw e refl

groups_took : (ws : List Word) (x : List Name × List Word) → groups_at ws ≡ Some x → Took AreGroups ws x
groups_took [] x e = subst (λ z. Took AreGroups [] z) (some_is ([], []) x e) (record { piece = []; whole = refl; is = NoGroup })
groups_took (w ∷ []) x e = cases (bytes_eq w (codes "group")) refl e
  where
    cases : (b : Bool) → bytes_eq w (codes "group") ≡ b → cond b None (Some ([], w ∷ [])) ≡ Some x → Took AreGroups (w ∷ []) x
    cases true h e = absurd cc
    cases false h e = subst (λ z. Took AreGroups (w ∷ []) z) (some_is ([], w ∷ []) x e) (record { piece = []; whole = refl; is = NoGroup })
groups_took (w ∷ v ∷ ws) x e = cases (groups_took ws) (bytes_eq w (codes "group")) refl e
  where
    cases : ((y : List Name × List Word) → groups_at ws ≡ Some y → Took AreGroups ws y) → (b : Bool) → bytes_eq w (codes "group") ≡ b → cond b (name_of v >>= λ name. put_name name (groups_at ws)) (Some ([], w ∷ v ∷ ws)) ≡ Some x → Took AreGroups (w ∷ v ∷ ws) x
    cases more true h e =
        let a = bind_some (name_of v) (λ name. put_name name (groups_at ws)) x e in
        let n = name_some v a.0 a.1 in
        let p = put_some a.0 (groups_at ws) x a.2 in
        let t = more p.0 p.1 in
        let first : w ≡ codes "group" = (bytes_eq-Decides w (codes "group")).0 h in
        subst (λ z. Took AreGroups (w ∷ v ∷ ws) z) p.2 (record {
          piece = codes "group" ∷ a.0 ∷ t.piece;
          whole = ap (λ (u : Word). u ∷ v ∷ ws) first ∙ ap (λ (u : Word). codes "group" ∷ u ∷ ws) n.1 ∙ ap (λ (us : List Word). codes "group" ∷ a.0 ∷ us) t.whole;
          is = OneGroup a.0 t.piece p.0.0 n.0 t.is;
        })
    cases more false h e = subst (λ z. Took AreGroups (w ∷ v ∷ ws) z) (some_is ([], w ∷ v ∷ ws) x e) (record { piece = []; whole = refl; is = NoGroup })

-- what follows is no group
groups_stop : (ws : List Word) → begins (codes "group") ws ≡ false → groups_at ws ≡ Some ([], ws)
groups_stop [] e = refl
groups_stop (w ∷ []) e = rw e refl
groups_stop (w ∷ v ∷ ws) e = rw e refl

groups_read : (ws rest : List Word) (names : List Name) → AreGroups ws names → begins (codes "group") rest ≡ false → groups_at (ws ++ rest) ≡ Some (names, rest)
groups_read _ rest _ NoGroup ends = groups_stop rest ends
groups_read _ rest _ (OneGroup name ws names e more) ends = rw (name_reads name e, groups_read ws rest names more ends) refl

end_took : (key : Word) (ws : List Word) (x : End × List Word) → end_at key ws ≡ Some x → Took (IsEnd key) ws x
unfolding end_at
end_took key ws x e =
    let a = bind_some (keyed key address_of ws) (λ addr. optional (codes "port") port_number_of addr.1 >>= λ port. Some (record { addr = addr.0; port = port.0 }, port.1)) x e in
    let p = bind_some (optional (codes "port") port_number_of a.0.1) (λ (port : Option ℕ × List Word). Some (record { addr = a.0.0; port = port.0 }, port.1)) x a.2 in
    let s = keyed_took key address_of ws a.0 a.1 in
    let t = optional_took (codes "port") port_number_of a.0.1 p.0 p.1 in
    subst (λ z. Took (IsEnd key) ws z) (some_is _ x p.2) (record {
      piece = s.piece ++ t.piece;
      whole = s.whole ∙ ap (λ (us : List Word). s.piece ++ us) t.whole ∙ sym (append_assoc s.piece t.piece p.0.1);
      is = EndOf s.piece t.piece a.0.0 p.0.0 s.is t.is;
    })

end_reads : (key : Word) (ws rest : List Word) (x : End) → IsEnd key ws x → begins (codes "port") rest ≡ false → end_at key (ws ++ rest) ≡ Some (x, rest)
unfolding end_at
end_reads key _ rest _ (EndOf ws us addr port is_addr is_port) ends =
    rw (append_assoc ws us rest, keyed_reads key address_of ws (us ++ rest) addr is_addr, optional_reads (codes "port") port_number_of us rest port is_port ends) refl

-- ---- the whole

-- what is put together of the parts
abbrev packet_with : Direction → Name → List Name → ℕ → End → End → TcpFlags → Option ℕ → PacketValue
packet_with direction interface groups protocol source destination flags icmp_type = record {
  direction = direction;
  interface = interface;
  groups = groups;
  protocol = protocol;
  source = source.addr;
  source_port = source.port;
  destination = destination.addr;
  destination_port = destination.port;
  flags = flags;
  icmp_type = icmp_type;
}

at_end_is : {X : Type 0} (b : Bool) (x y : X) (ws : List Word) → at_end b x ws ≡ Some y → (b ≡ true) × (x ≡ y) × (ws ≡ [])
at_end_is true x y [] e = (refl, some_is x y e, refl)
at_end_is true x y (w ∷ ws) e = absurd cc
at_end_is false x y ws e = absurd cc

packet_took : (ws : List Word) (k : PacketValue) → packet_at ws ≡ Some k → IsPacket ws k
unfolding packet_at
packet_took ws k e =
    let d = bind_some (value direction_of ws) _ k e in
    let i = bind_some (keyed (codes "on") name_of d.0.1) _ k d.2 in
    let g = bind_some (groups_at i.0.1) _ k i.2 in
    let p = bind_some (keyed (codes "proto") protocol_of g.0.1) _ k g.2 in
    let s = bind_some (end_at (codes "from") p.0.1) _ k p.2 in
    let t = bind_some (end_at (codes "to") s.0.1) _ k s.2 in
    let f = bind_some (optional (codes "flags") flags_of t.0.1) _ k t.2 in
    let y = bind_some (optional (codes "icmp-type") type_number_of f.0.1) _ k f.2 in
    let z = at_end_is (agrees g.0.0 p.0.0 s.0.0 t.0.0 f.0.0 y.0.0) (packet_with d.0.0 i.0.0 g.0.0 p.0.0 s.0.0 t.0.0 (said_flags f.0.0) y.0.0) k y.0.1 y.2 in
    let td = direction_took ws d.0 d.1 in
    let ti = keyed_took (codes "on") name_of d.0.1 i.0 i.1 in
    let tg = groups_took i.0.1 g.0 g.1 in
    let tp = keyed_took (codes "proto") protocol_of g.0.1 p.0 p.1 in
    let ts = end_took (codes "from") p.0.1 s.0 s.1 in
    let tt = end_took (codes "to") s.0.1 t.0 t.1 in
    let tf = optional_took (codes "flags") flags_of t.0.1 f.0 f.1 in
    let ty = optional_took (codes "icmp-type") type_number_of f.0.1 y.0 y.1 in
    let last : f.0.1 ≡ ty.piece = ty.whole ∙ ap (λ (us : List Word). ty.piece ++ us) z.2 ∙ append-nil ty.piece in
    let w7 : t.0.1 ≡ tf.piece ++ ty.piece = tf.whole ∙ ap (λ (us : List Word). tf.piece ++ us) last in
    let w6 : s.0.1 ≡ tt.piece ++ (tf.piece ++ ty.piece) = tt.whole ∙ ap (λ (us : List Word). tt.piece ++ us) w7 in
    let w5 : p.0.1 ≡ ts.piece ++ (tt.piece ++ (tf.piece ++ ty.piece)) = ts.whole ∙ ap (λ (us : List Word). ts.piece ++ us) w6 in
    let w4 : g.0.1 ≡ tp.piece ++ (ts.piece ++ (tt.piece ++ (tf.piece ++ ty.piece))) = tp.whole ∙ ap (λ (us : List Word). tp.piece ++ us) w5 in
    let w3 : i.0.1 ≡ tg.piece ++ (tp.piece ++ (ts.piece ++ (tt.piece ++ (tf.piece ++ ty.piece)))) = tg.whole ∙ ap (λ (us : List Word). tg.piece ++ us) w4 in
    let w2 : d.0.1 ≡ ti.piece ++ (tg.piece ++ (tp.piece ++ (ts.piece ++ (tt.piece ++ (tf.piece ++ ty.piece))))) = ti.whole ∙ ap (λ (us : List Word). ti.piece ++ us) w3 in
    subst (λ (v : PacketValue). IsPacket ws v) z.1 (record {
      direction = td.piece;
      interface = ti.piece;
      groups = tg.piece;
      protocol = tp.piece;
      source = ts.piece;
      destination = tt.piece;
      flags = tf.piece;
      icmp_type = ty.piece;
      said = f.0.0;
      whole = td.whole ∙ ap (λ (us : List Word). td.piece ++ us) w2;
      is_direction = td.is;
      is_interface = ti.is;
      are_groups = tg.is;
      is_protocol = tp.is;
      is_source = ts.is;
      is_destination = tt.is;
      are_flags = tf.is;
      flags_said = refl;
      is_type = ty.is;
      agree = z.0;
    })

-- ---- which word comes next

keyed_begins : {X : Type 0} (key other : Word) (read : Word → Option X) (ws rest : List Word) (x : X) → IsKeyed key read ws x → bytes_eq key other ≡ false → begins other (ws ++ rest) ≡ false
keyed_begins key other read _ rest _ (Keyed word x e) ends = ends

end_begins : (key other : Word) (ws rest : List Word) (x : End) → IsEnd key ws x → bytes_eq key other ≡ false → begins other (ws ++ rest) ≡ false
end_begins key other _ rest _ (EndOf _ us addr port (Keyed word _ e) is_port) ends = ends

optional_begins : {X : Type 0} (key other : Word) (read : Word → Option X) (ws rest : List Word) (x : Option X) → IsOptional key read ws x → bytes_eq key other ≡ false → begins other rest ≡ false → begins other (ws ++ rest) ≡ false
optional_begins key other read _ rest _ Missing ends behind = behind
optional_begins key other read _ rest _ (Present _ _ (Keyed word x e)) ends behind = ends

packet_reads : (ws : List Word) (k : PacketValue) → IsPacket ws k → packet_at ws ≡ Some k
unfolding packet_at
packet_reads ws k is =
    let y : optional (codes "icmp-type") type_number_of is.icmp_type ≡ Some (k.icmp_type, []) =
    ap (λ (us : List Word). optional (codes "icmp-type") type_number_of us) (sym (append-nil is.icmp_type)) ∙ optional_reads (codes "icmp-type") type_number_of is.icmp_type [] k.icmp_type is.is_type refl in
    let no_flags_behind : begins (codes "flags") is.icmp_type ≡ false =
    ap (λ (us : List Word). begins (codes "flags") us) (sym (append-nil is.icmp_type)) ∙ optional_begins (codes "icmp-type") (codes "flags") type_number_of is.icmp_type [] k.icmp_type is.is_type refl refl in
    let no_port_last : begins (codes "port") is.icmp_type ≡ false =
    ap (λ (us : List Word). begins (codes "port") us) (sym (append-nil is.icmp_type)) ∙ optional_begins (codes "icmp-type") (codes "port") type_number_of is.icmp_type [] k.icmp_type is.is_type refl refl in
    let f = optional_reads (codes "flags") flags_of is.flags is.icmp_type is.said is.are_flags no_flags_behind in
    let no_port_behind = optional_begins (codes "flags") (codes "port") flags_of is.flags is.icmp_type is.said is.are_flags refl no_port_last in
    let t = end_reads (codes "to") is.destination (is.flags ++ is.icmp_type) _ is.is_destination no_port_behind in
    let no_port = end_begins (codes "to") (codes "port") is.destination (is.flags ++ is.icmp_type) _ is.is_destination refl in
    let s = end_reads (codes "from") is.source (is.destination ++ (is.flags ++ is.icmp_type)) _ is.is_source no_port in
    let p = keyed_reads (codes "proto") protocol_of is.protocol (is.source ++ (is.destination ++ (is.flags ++ is.icmp_type))) k.protocol is.is_protocol in
    let no_group = keyed_begins (codes "proto") (codes "group") protocol_of is.protocol (is.source ++ (is.destination ++ (is.flags ++ is.icmp_type))) k.protocol is.is_protocol refl in
    let g = groups_read is.groups (is.protocol ++ (is.source ++ (is.destination ++ (is.flags ++ is.icmp_type)))) k.groups is.are_groups no_group in
    let i = keyed_reads (codes "on") name_of is.interface (is.groups ++ (is.protocol ++ (is.source ++ (is.destination ++ (is.flags ++ is.icmp_type))))) k.interface is.is_interface in
    let d = direction_reads is.direction (is.interface ++ (is.groups ++ (is.protocol ++ (is.source ++ (is.destination ++ (is.flags ++ is.icmp_type)))))) k.direction is.is_direction in
    rw (is.whole, d, i, g, p, s, t, f, y, is.agree, is.flags_said) refl

-- ---- the text

no_packet : (k : PacketValue) → packet_at [] ≡ Some k → ⊥
unfolding packet_at value
no_packet k e = cc

text_took : (text : List ℕ) (k : PacketValue) → packet_of text ≡ Some k → IsPacketText text k
text_took text k e = cases (has_outer_blank text) refl e
  where
    some : packet_at (words text) ≡ Some k → text ≢ []
    some e same = no_packet k (ap (λ (t : List ℕ). packet_at (words t)) (sym same) ∙ e)

    cases : (b : Bool) → has_outer_blank text ≡ b → cond b None (packet_at (words text)) ≡ Some k → IsPacketText text k
    cases true h e = absurd cc
    cases false h e = record { words = words text; are_words = are_spaced text (some e) h; is_packet = packet_took (words text) k e }

text_reads : (text : List ℕ) (k : PacketValue) → IsPacketText text k → packet_of text ≡ Some k
text_reads text k is = rw (no_outer_blank text is.words is.are_words, words_are text is.words is.are_words) (packet_reads is.words k is.is_packet)

pub packet_spelled : (text : List ℕ) (k : PacketValue) → (packet_of text ≡ Some k → IsPacketText text k) × (IsPacketText text k → packet_of text ≡ Some k)
packet_spelled text k = (text_took text k, text_reads text k)
