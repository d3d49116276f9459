mod Bundle
