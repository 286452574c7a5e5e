-- The part of a class file behind its constant pool.
use Rattle.std.specs.Prelude.{List}
use Rattle.jm_bytes.specs.Format.{Format, ◌>>=◌, guard, done}
use Rattle.jm_program.specs.Flags.{is_interface}
use Rattle.jm_program.specs.declared.class.Version.{Version}
use Rattle.jm_program.specs.declared.class.ClassParts.{ClassParts}
use Rattle.jm_class_format.specs.declared.constant_pool.Entry.{Entry}
use Rattle.jm_class_format.specs.declared.read_fault.ReadFault.{ReadFault}
use Rattle.jm_class_format.specs.declared.read_fault.ReadFault.TheVariants as fault
use Rattle.jm_class_format.specs.ClassFile.{head, body, parts_of, class_fits}

-- the end of the definition of a class file, of such a version and of such a pool
unfoldable pub behind_pool : Version → List Entry → Format ReadFault ClassParts
behind_pool v es = do
  h ← head es
  b ← body es (is_interface h.access)
  _ ← guard fault.BadAttribute (class_fits (parts_of v h b))
  done (parts_of v h b)
