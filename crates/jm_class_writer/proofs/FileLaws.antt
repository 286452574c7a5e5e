-- What is written for a class is a class file that spells it (JVMS 4.1).
use Rattle.std.proofs.Common.{◌≡◌, ℕ, true, eqb, List, ◌++◌, Option, Some, None, Ok, refl, sym, ap, subst, ◌∙◌, append_assoc}
use Rattle.std.specs.Prelude.{codes}
use Rattle.jm_bytes.specs.Laws.{and_then_ok, same_Ok}
use Rattle.jm_bytes.specs.Reading.{and_then}
use Rattle.jm_bytes.specs.Format.{Format, ◌>>=◌, done, guard, u2, u4}
use Rattle.jm_bytes.proofs.Spelled.{then_text}
use Rattle.jm_program.specs.Flags.{is_interface}
use Rattle.jm_program.specs.Names.{same_text}
use Rattle.jm_program.specs.Fits.{version_fits, Fits}
use Rattle.jm_program.specs.declared.class.Version.{Version}
use Rattle.jm_program.specs.declared.class.ClassParts.{ClassParts}
use Rattle.jm_class_format.specs.declared.constant_pool.Entry.{Entry}
use Rattle.jm_class_format.specs.declared.read_fault.ReadFault.{ReadFault}
use Rattle.jm_class_format.specs.declared.read_fault.ReadFault.TheVariants as read
use Rattle.jm_class_format.specs.CodeAttribute.{attribute_name, whole_info}
use Rattle.jm_class_format.specs.Members as members
use Rattle.jm_class_format.specs.ClassFile as file
use Rattle.jm_class_format.proofs.Rules.{of_fits}
use Rattle.jm_pool.specs.Building.{pool_bytes, Sound}
use Rattle.jm_pool.proofs.BuiltPools.{sound_spells}
use Rattle.jm_class_writer.specs.declared.fault.WriteFault.{WriteFault}
use Rattle.jm_class_writer.specs.Drafts.{DraftParts, put_u2, put_u4, opened, with_length}
use Rattle.jm_class_writer.specs.CodeParts.{put_name}
use Rattle.jm_class_writer.specs.ClassParts.{put_head, put_fields, put_methods, put_class_attributes, put_body, put_contents, nothing_written, put_version, written}
use Rattle.jm_class_writer.specs.Ranges.{OfSome, UnitsInRange, InRange}
use Rattle.jm_class_writer.proofs.TextRanges.{ascii_in_range}
use Rattle.jm_class_writer.proofs.Growth.{step_ok, begins_same, Writes, writes_then, writes_guard, writes_last, writes_u2, writes_u4}
use Rattle.jm_class_writer.proofs.PartLaws.{name_writes, length_writes}
use Rattle.jm_class_writer.proofs.ClassLaws.{one_attribute, no_attribute, head_writes, fields_writes, CodeLaw, methods_writes}

source_file_writes : (units : List ℕ) (a : DraftParts) (z : Unit {0} × DraftParts) → UnitsInRange units → put_name units a ≡ Ok z → Writes file.source_file units a z.1
unfolding file.source_file attribute_name
source_file_writes units a z r h = name_writes read.BadAttribute units a z r h

class_attributes_writes : (source : Option (List ℕ)) (a : DraftParts) (z : Unit {0} × DraftParts) → OfSome UnitsInRange source → put_class_attributes source a ≡ Ok z → Writes file.class_attributes source a z.1
unfolding put_class_attributes file.class_attributes file.class_attribute file.class_attribute_info
class_attributes_writes None a z r h = no_attribute file.class_attribute a z.1 (writes_u2 read.Cut 0 a z h)
class_attributes_writes (Some units) a z r h =
    let p = step_ok (put_u2 1) (λ _ draft. and_then (put_name (codes "SourceFile") draft) (λ x. with_length (put_name units) x.1)) a z h in
    let q = step_ok (put_name (codes "SourceFile")) (λ _. with_length (put_name units)) p.0.1 z p.2 in
    let body : Writes (λ es. whole_info read.Cut (file.source_file es)) units q.0.1 z.1 =
    length_writes read.Cut file.source_file units (put_name units) q.0.1 z (λ x k. source_file_writes units (opened q.0.1) x r k) q.2 in
    let info : Writes (λ es. file.class_attribute_info es None true) (Some units) q.0.1 z.1 =
    writes_then (λ es. guard read.BadAttribute true) (λ es _. whole_info read.Cut (file.source_file es) >>= (λ v. done (Some v))) tt (Some units) q.0.1 q.0.1 z.1
    (writes_guard read.BadAttribute true q.0.1 refl) (writes_last (λ es. whole_info read.Cut (file.source_file es)) (λ v. Some v) units q.0.1 z.1 body) in
    let attribute : Writes (λ es. file.class_attribute es None) (Some units) p.0.1 z.1 =
    writes_then (attribute_name read.Cut) (λ es name. file.class_attribute_info es None (same_text name (codes "SourceFile"))) (codes "SourceFile") (Some units) p.0.1 q.0.1 z.1
    (name_writes read.Cut (codes "SourceFile") p.0.1 q.0 (ascii_in_range (codes "SourceFile") refl) q.1) info in
    one_attribute file.class_attribute (Some units) a p.0.1 z.1 (writes_u2 read.Cut 1 a p.0 p.1) attribute

body_writes : CodeLaw → (c : ClassParts) (a : DraftParts) (z : Unit {0} × DraftParts) → Sound a.entries → InRange c → Fits c → put_body c a ≡ Ok z
    → Writes (λ es. file.body es (is_interface c.flags)) (record { fields = c.fields; methods = c.methods; source_file = c.source_file }) a z.1
unfolding put_body file.body
body_writes law c a z s r fits h =
    let p = step_ok (put_fields c.fields) (λ _ draft. and_then (put_methods c.methods draft) (λ x. put_class_attributes c.source_file x.1)) a z h in
    let q = step_ok (put_methods c.methods) (λ _. put_class_attributes c.source_file) p.0.1 z p.2 in
    let fields = fields_writes c.fields a p.0 r.fields fits.fields p.1 in
    writes_then members.fields (λ es fs. members.methods es (is_interface c.flags) >>= (λ ms. file.class_attributes es >>= (λ source. done (record { fields = fs; methods = ms; source_file = source }))))
    c.fields _ a p.0.1 z.1 fields
    (writes_then (λ es. members.methods es (is_interface c.flags)) (λ es ms. file.class_attributes es >>= (λ source. done (record { fields = c.fields; methods = ms; source_file = source })))
    c.methods _ p.0.1 q.0.1 z.1 (methods_writes law (is_interface c.flags) c.methods p.0.1 q.0 (fields.grows.sound s) r.methods fits.methods q.1)
    (writes_last file.class_attributes (λ source. record { fields = c.fields; methods = c.methods; source_file = source }) c.source_file q.0.1 z.1
    (class_attributes_writes c.source_file q.0.1 z r.source_file q.2)))

version_writes : (v : Version) (a : DraftParts) (z : Unit {0} × DraftParts) → version_fits v ≡ true → put_version v a ≡ Ok z → Writes (λ es. file.version) v a z.1
unfolding put_version file.version
version_writes v a z fits h =
    let p = step_ok (put_u4 0xCAFEBABE) (λ _ draft. and_then (put_u2 v.minor draft) (λ x. put_u2 v.major x.1)) a z h in
    let q = step_ok (put_u2 v.minor) (λ _. put_u2 v.major) p.0.1 z p.2 in
    writes_then (λ es. u4 read.Cut) (λ es magic. guard read.Magic (eqb magic 0xCAFEBABE) >>= (λ _. u2 read.Cut >>= (λ minor. u2 read.Cut >>= (λ major. guard read.Version (version_fits (record { major = major; minor = minor })) >>= (λ _. done (record { major = major; minor = minor }))))))
    0xCAFEBABE v a p.0.1 z.1 (writes_u4 read.Cut 0xCAFEBABE a p.0 p.1)
    (writes_then (λ es. guard read.Magic true) (λ es _. u2 read.Cut >>= (λ minor. u2 read.Cut >>= (λ major. guard read.Version (version_fits (record { major = major; minor = minor })) >>= (λ _. done (record { major = major; minor = minor })))))
    tt v p.0.1 p.0.1 z.1 (writes_guard read.Magic true p.0.1 refl)
    (writes_then (λ es. u2 read.Cut) (λ es minor. u2 read.Cut >>= (λ major. guard read.Version (version_fits (record { major = major; minor = minor })) >>= (λ _. done (record { major = major; minor = minor }))))
    v.minor v p.0.1 q.0.1 z.1 (writes_u2 read.Cut v.minor p.0.1 q.0 q.1)
    (writes_then (λ es. u2 read.Cut) (λ es major. guard read.Version (version_fits (record { major = major; minor = v.minor })) >>= (λ _. done (record { major = major; minor = v.minor })))
    v.major v q.0.1 z.1 z.1 (writes_u2 read.Cut v.major q.0.1 z q.2)
    (writes_last (λ es. guard read.Version (version_fits v)) (λ _. v) tt z.1 z.1 (writes_guard read.Version (version_fits v) z.1 fits)))))

-- what stands behind the pool
abbrev contents : Version → List Entry → Format ReadFault ClassParts
contents v es = file.head es >>= (λ h. file.body es (is_interface h.access) >>= (λ b. guard read.BadAttribute (file.class_fits (file.parts_of v h b)) >>= (λ _. done (file.parts_of v h b))))

contents_writes : CodeLaw → (c : ClassParts) (a : DraftParts) (z : Unit {0} × DraftParts) → Sound a.entries → InRange c → Fits c → put_contents c a ≡ Ok z → Writes (contents c.version) c a z.1
unfolding put_contents
contents_writes law c a z s r fits h =
    let p = step_ok (put_head c) (λ _. put_body c) a z h in
    let head = head_writes c a p.0 r fits p.1 in
    writes_then file.head (λ es h. file.body es (is_interface h.access) >>= (λ b. guard read.BadAttribute (file.class_fits (file.parts_of c.version h b)) >>= (λ _. done (file.parts_of c.version h b))))
    (record { access = c.flags; name = c.name; superclass = c.superclass; interfaces = c.interfaces }) c a p.0.1 z.1 head
    (writes_then (λ es. file.body es (is_interface c.flags)) (λ es b. guard read.BadAttribute (file.class_fits (file.parts_of c.version (record { access = c.flags; name = c.name; superclass = c.superclass; interfaces = c.interfaces }) b)) >>= (λ _. done (file.parts_of c.version (record { access = c.flags; name = c.name; superclass = c.superclass; interfaces = c.interfaces }) b)))
    (record { fields = c.fields; methods = c.methods; source_file = c.source_file }) c p.0.1 z.1 z.1 (body_writes law c p.0.1 z (head.grows.sound s) r fits p.2)
    (writes_last (λ es. guard read.BadAttribute (file.class_fits c)) (λ _. c) tt z.1 z.1 (writes_guard read.BadAttribute (file.class_fits c) z.1 (of_fits c fits))))

pub written_spelled : CodeLaw → (c : ClassParts) (bytes : List ℕ) → InRange c → Fits c → written c ≡ Ok bytes → file.Spells bytes c
unfolding written file.class file.file_pool
written_spelled law c bytes r fits h =
    let p = and_then_ok (put_version c.version nothing_written) (λ v. and_then (put_contents c nothing_written) (λ x. Ok (v.1.written ++ pool_bytes x.1.entries ++ x.1.written))) bytes h in
    let q = and_then_ok (put_contents c nothing_written) (λ x. Ok (p.0.1.written ++ pool_bytes x.1.entries ++ x.1.written)) bytes p.2 in
    let v = version_writes c.version nothing_written p.0 fits.version p.1 in
    let w = contents_writes law c nothing_written q.0 Sound.none r fits q.1 in
    let entries : List Entry = q.0.1.entries in
    let text : List ℕ = v.text ++ (pool_bytes entries ++ w.text) in
    let same : text ≡ bytes =
    ap (λ (t : List ℕ). t ++ (pool_bytes entries ++ w.text)) (sym v.bytes) ∙ ap (λ (t : List ℕ). p.0.1.written ++ (pool_bytes entries ++ t)) (sym w.bytes)
    ∙ sym (append_assoc p.0.1.written (pool_bytes entries) q.0.1.written) ∙ same_Ok {F = WriteFault} _ bytes q.2 in
    subst (λ (t : List ℕ). file.Spells t c) same
    (then_text file.version (λ v. file.file_pool >>= contents v) v.text (pool_bytes entries ++ w.text) c.version c (v.spells p.0.1.entries (begins_same p.0.1.entries))
    (then_text file.file_pool (contents c.version) (pool_bytes entries) w.text entries c (sound_spells entries (w.grows.sound Sound.none)) (w.spells entries (begins_same entries))))
