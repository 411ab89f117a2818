-- The names of courses and rooms.
pub use Rattle.ctt_reader.specs.Naming.{course_name, room_name, no_course, no_room}
